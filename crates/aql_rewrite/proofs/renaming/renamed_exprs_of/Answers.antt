-- The expressions of a node are plain ones.
use Rattle.std.proofs.Common.{◌≡◌, ◌∙◌, List, map, option_map, unwrap_or, ap, sym, subst}
use Rattle.std.proofs.lemmas.Result.{IfOk-weaker}
use Rattle.std.specs.List.{AllByRecursion}
use Rattle.aql_tree.specs.Tree.{ExprTree}
use Rattle.aql_tree.specs.View.{tree}
use Rattle.aql_meaning.specs.Plain.{IsPlain}
use Rattle.aql_plan.specs.View.{node_tree}
use Rattle.aql_rewrite.specs.ExprView.{lent}
use Rattle.aql_rewrite.specs.Renames.{put_each}
use Rattle.aql_rewrite.specs.laws.RenamedPlans.{exprs_plain, no_body}
use Rattle.aql_rewrite.proofs.renaming.renamed_exprs_of.Goals as goal

pub renamed_exprs-requires : goal.renamed_exprs-requires
renamed_exprs-requires c =
    subst (λ (es : List ExprTree). AllByRecursion IsPlain es)
    (sym (ap (map lent) c.deref.ensures.value ∙ c.in_ok-all.ensures))
    (exprs_plain (node_tree c.args.node.now) (no_body c.args.node.now) c.requires)

pub returns : goal.returns
returns c =
    IfOk-weaker c.renamed_exprs.result _ _
    (λ new h. subst (λ (es : List ExprTree). unwrap_or (option_map (λ q. map tree q.items) new) es
    ≡ map (put_each c.args.renames.now) es) (ap (map lent) c.deref.ensures.value ∙ c.in_ok-all.ensures) h)
    c.renamed_exprs.ensures
