-- They are those of the node.
use Rattle.std.proofs.Common.{◌∙◌, List, map, option_map, unwrap_or, ap, subst}
use Rattle.std.proofs.lemmas.Result.{IfOk-weaker}
use Rattle.aql_tree.specs.Tree.{ExprTree}
use Rattle.aql_tree.specs.View.{tree}
use Rattle.aql_rewrite.specs.ExprView.{lent}
use Rattle.aql_passes.specs.inner.Ends.{AllEnd}
use Rattle.aql_passes.proofs.expr_pass.ended_exprs.Goals as goal

pub returns : goal.returns
returns g c =
    IfOk-weaker c.all_to_end.result _ _
    (λ new h. subst (λ (es : List ExprTree). AllEnd (g.R.ExprRule.rewrites c.args.rule.now) es
    (unwrap_or (option_map (λ q. map tree q.items) new) es) c.args.changed.now c.all_to_end.new.changed)
    (ap (map lent) c.deref.ensures.value ∙ c.in_ok-all.ensures) h) c.all_to_end.ensures
