-- A plan comes to its end by its input, and then by its body or its expressions.
use Rattle.std.proofs.Common.{ap, sym, subst}
use Rattle.std.proofs.lemmas.Result.{IfOk-weaker}
use Rattle.aql_tree.specs.declared.syntax.Ident.TheVariants.{Num}
use Rattle.aql_plan.specs.Plan.{Plan, Over, Subquery}
use Rattle.aql_plan.specs.Shapes.{HasNoFragment}
use Rattle.aql_plan.specs.View.{plan_tree, node_tree}
use Rattle.aql_rewrite.specs.laws.RenamedPlans.{no_body}
use Rattle.aql_passes.specs.inner.Ends.{ExprsEnd, PlanEnds}
use Rattle.aql_passes.specs.laws.PlansEnded.{start_ends, node_ends, body_ends}
use Rattle.aql_passes.proofs.expr_pass.+to_end.Goals as goal

pub returns-in-Singleton : goal.returns-in-Singleton
returns-in-Singleton g t c =
    let rewrites = g.R.ExprRule.rewrites c.args.rule.now in
    let x = c.args.changed.now in
    subst (λ (o : Plan). PlanEnds rewrites o o x x) (sym (ap plan_tree c.in-Singleton.is))
    (start_ends rewrites x)

pub returns-in_ok-to_end-in-Over : goal.returns-in_ok-to_end-in-Over
returns-in_ok-to_end-in-Over g t c =
    let rewrites = g.R.ExprRule.rewrites c.args.rule.now in
    let b = plan_tree c.in-Over.below.value in
    let d = plan_tree c.to_end.new.plan in
    let n = node_tree c.in-Over.node.value in
    let m = node_tree c.exprs_to_end.new.node in
    let x = c.args.changed.now in
    let y = c.to_end.new.changed in
    let z = c.exprs_to_end.new.changed in
    let was = ap plan_tree c.in-Over.is in
    IfOk-weaker c.exprs_to_end.result _ _
    (λ _ h. subst (λ (o : Plan). PlanEnds rewrites o (Over d m) x z) (sym was)
    (node_ends rewrites n m b d x y z (subst HasNoFragment was c.requires) (no_body c.in-Over.node.value)
    (subst (λ o. PlanEnds rewrites (plan_tree o) d x y) c.deref_mut.ensures.value
    c.in_ok-to_end-in-Over.ensures)
    (subst (λ o. ExprsEnd rewrites (node_tree o) m y z) c.deref_mut-in-Over.ensures.value h)))
    c.exprs_to_end.ensures

pub returns-in_ok-to_end-in-Subquery : goal.returns-in_ok-to_end-in-Subquery
returns-in_ok-to_end-in-Subquery g t c =
    let rewrites = g.R.ExprRule.rewrites c.args.rule.now in
    let v = Num c.in-Subquery.var in
    let b = plan_tree c.in-Subquery.below.value in
    let d = plan_tree c.to_end-in-Subquery.new.plan in
    let s = plan_tree c.in-Subquery.body.value in
    let e = plan_tree c.to_end-in-Subquery-2.new.plan in
    let x = c.args.changed.now in
    let y = c.to_end-in-Subquery.new.changed in
    let z = c.to_end-in-Subquery-2.new.changed in
    let was = ap plan_tree c.in-Subquery.is in
    IfOk-weaker c.to_end-in-Subquery-2.result _ _
    (λ _ h. subst (λ (o : Plan). PlanEnds rewrites o (Over d (Subquery v e)) x z) (sym was)
    (body_ends rewrites v b d s e x y z (subst HasNoFragment was c.requires).1
    (subst (λ o. PlanEnds rewrites (plan_tree o) d x y) c.deref_mut-in-Subquery.ensures.value
    c.in_ok-to_end-in-Subquery.ensures)
    (subst (λ o. PlanEnds rewrites (plan_tree o) e y z) c.deref_mut-in-Subquery-2.ensures.value h)))
    c.to_end-in-Subquery-2.ensures
