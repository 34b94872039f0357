use Rattle.std.proofs.Common.{◌*◌, ◌+◌, map, take}
use Rattle.aql_tree.specs.View.{tree}
use Rattle.aql_rewrite.specs.FirstInExpr.{NoneInAll}
use Rattle.aql_rewrite.specs.Size.{size, size_all}
use Rattle.aql_rewrite.specs.ExprView.{lent}
use Rattle.aql_rewrite.proofs.expr_search.+first.Given as goal

abbrev pub decreases-first_in : goal.decreases-first_in
decreases-first_in g l = 2 * size (tree l.expr.now)

abbrev pub decreases-first_among : goal.decreases-first_among
decreases-first_among g l = 2 * size_all (map lent l.all.now) + 1

abbrev pub invariant-first_among-loop-at : goal.invariant-first_among-loop-at
invariant-first_among-loop-at g l =
    NoneInAll (g.R.ExprRule.rewrites l.rule) (map lent (take l.at l.all))
