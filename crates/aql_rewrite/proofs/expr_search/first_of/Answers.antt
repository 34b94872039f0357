-- The same of expressions one after another.
use Rattle.std.proofs.Common.{◌<◌, map}
use Rattle.std.specs.Prelude.{MatchOption, IfSome}
use Rattle.std.specs.List.{AllZip}
use Rattle.aql_tree.specs.View.{tree}
use Rattle.aql_rewrite.specs.FirstInExpr.{NoneInAll, FirstOf}
use Rattle.aql_rewrite.specs.Keeps.{Keeps}
use Rattle.aql_rewrite.specs.Size.{size_all}
use Rattle.aql_rewrite.specs.ExprView.{lent}
use Rattle.aql_rewrite.specs.laws.FirstKept.{first_of_keeps, first_of_smaller}
use Rattle.aql_rewrite.proofs.Steps.{if_ok, if_found}
use Rattle.aql_rewrite.proofs.expr_search.first_of.Goals as goal

pub returns-clause-keeps : goal.returns-clause-keeps
returns-clause-keeps g c =
    let R = g.R.ExprRule.rewrites c.args.rule.now in
    let es = map lent c.args.all.now in
    if_ok c.first_among.result
    (λ found. MatchOption found (NoneInAll R es) (λ new. FirstOf R es (map tree new.items)))
    (λ found. IfSome found (λ new. AllZip Keeps es (map tree new.items)))
    (λ found h. if_found (NoneInAll R es) (λ new. FirstOf R es (map tree new.items))
    (λ new. AllZip Keeps es (map tree new.items))
    (λ new f. first_of_keeps R (g.met.R.ExprRule.keeps c.args.rule.now) f) found h) c.first_among.ensures

pub returns-clause-falls : goal.returns-clause-falls
returns-clause-falls g c =
    let R = g.R.ExprRule.rewrites c.args.rule.now in
    let es = map lent c.args.all.now in
    if_ok c.first_among.result
    (λ found. MatchOption found (NoneInAll R es) (λ new. FirstOf R es (map tree new.items)))
    (λ found. IfSome found (λ new. size_all (map tree new.items) < size_all es))
    (λ found h. if_found (NoneInAll R es) (λ new. FirstOf R es (map tree new.items))
    (λ new. size_all (map tree new.items) < size_all es)
    (λ new f. first_of_smaller R (g.met.R.ExprRule.falls c.args.rule.now) f) found h) c.first_among.ensures
