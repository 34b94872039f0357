-- The renamings one after another in a node are one in each of its expressions.
use Rattle.std.proofs.Common.{◌∙◌, ap, sym}
use Rattle.std.proofs.lemmas.Result.{IfOk-weaker}
use Rattle.aql_tree.specs.declared.syntax.Ident.TheVariants.{Num}
use Rattle.aql_plan.specs.Exprs.{map_plan, map_node}
use Rattle.aql_plan.specs.Plan.{Plan, Over, Node, Subquery}
use Rattle.aql_plan.specs.View.{plan_tree, node_tree}
use Rattle.aql_rewrite.specs.Renames.{put_each, top_each}
use Rattle.aql_rewrite.specs.laws.Renamings.{node_each}
use Rattle.aql_rewrite.proofs.renaming.rename_top.Goals as goal

pub returns-in-Over : goal.returns-in-Over
returns-in-Over c =
    let rs = c.args.renames.now in
    let b = plan_tree c.in-Over.below.value in
    IfOk-weaker c.rename_node.result _ _
    (λ _ h. ap (Over b) (h ∙ ap (λ n. map_node (put_each rs) (node_tree n)) c.deref_mut.ensures.value
    ∙ node_each rs (node_tree c.in-Over.node.value))
    ∙ sym (ap (λ p. top_each rs (plan_tree p)) c.in-Over.is)) c.rename_node.ensures

pub returns-in-Subquery : goal.returns-in-Subquery
returns-in-Subquery c =
    let rs = c.args.renames.now in
    let b = plan_tree c.in-Subquery.below.value in
    let v = Num c.in-Subquery.var in
    IfOk-weaker c.rename_plan.result _ _
    (λ _ h. ap (λ (s : Plan). Over b (Subquery v s))
    (h ∙ ap (λ p. map_plan (put_each rs) (plan_tree p)) c.deref_mut-in-Subquery.ensures.value)
    ∙ ap (Over b) (node_each rs (Subquery v (plan_tree c.in-Subquery.body.value)))
    ∙ sym (ap (λ p. top_each rs (plan_tree p)) c.in-Subquery.is)) c.rename_plan.ensures
