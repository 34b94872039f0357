-- What holds of each application of the rule holds of the whole expression.
use Rattle.std.proofs.Common.{◌<◌}
use Rattle.std.specs.Prelude.{MatchOption, IfSome}
use Rattle.aql_tree.specs.View.{tree}
use Rattle.aql_rewrite.specs.FirstInExpr.{NoneIn, FirstIn}
use Rattle.aql_rewrite.specs.Keeps.{Keeps}
use Rattle.aql_rewrite.specs.Size.{size}
use Rattle.aql_rewrite.specs.laws.FirstKept.{first_in_keeps, first_in_smaller}
use Rattle.aql_rewrite.proofs.Steps.{if_ok, if_found}
use Rattle.aql_rewrite.proofs.expr_search.first_in_expr.Goals as goal

pub returns-clause-keeps : goal.returns-clause-keeps
returns-clause-keeps g c =
    let R = g.R.ExprRule.rewrites c.args.rule.now in
    let e = tree c.args.expr.now in
    if_ok c.first_in.result (λ found. MatchOption found (NoneIn R e) (λ new. FirstIn R e (tree new)))
    (λ found. IfSome found (λ new. Keeps e (tree new)))
    (λ found h. if_found (NoneIn R e) (λ new. FirstIn R e (tree new)) (λ new. Keeps e (tree new))
    (λ new f. first_in_keeps R (g.met.R.ExprRule.keeps c.args.rule.now) f) found h) c.first_in.ensures

pub returns-clause-falls : goal.returns-clause-falls
returns-clause-falls g c =
    let R = g.R.ExprRule.rewrites c.args.rule.now in
    let e = tree c.args.expr.now in
    if_ok c.first_in.result (λ found. MatchOption found (NoneIn R e) (λ new. FirstIn R e (tree new)))
    (λ found. IfSome found (λ new. size (tree new) < size e))
    (λ found h. if_found (NoneIn R e) (λ new. FirstIn R e (tree new)) (λ new. size (tree new) < size e)
    (λ new f. first_in_smaller R (g.met.R.ExprRule.falls c.args.rule.now) f) found h) c.first_in.ensures
