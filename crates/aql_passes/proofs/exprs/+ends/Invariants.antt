use Rattle.std.proofs.Common.{◌*◌, ◌+◌, map, take, unwrap_or, option_map}
use Rattle.aql_tree.specs.View.{tree}
use Rattle.aql_rewrite.specs.Size.{size, size_all}
use Rattle.aql_rewrite.specs.ExprView.{lent}
use Rattle.aql_passes.specs.inner.Ends.{AllEnd}
use Rattle.aql_passes.proofs.exprs.+ends.Given as goal

abbrev pub decreases-to_end : goal.decreases-to_end
decreases-to_end g l = 2 * size (tree l.expr.now) + 1

abbrev pub decreases-whole_to_end : goal.decreases-whole_to_end
decreases-whole_to_end g l = 2 * size (tree l.whole.now)

abbrev pub decreases-all_to_end : goal.decreases-all_to_end
decreases-all_to_end g l = 2 * size_all (map lent l.all.now) + 2

abbrev pub invariant-all_to_end-loop-at : goal.invariant-all_to_end-loop-at
invariant-all_to_end-loop-at g l =
    AllEnd (g.R.ExprRule.rewrites l.rule) (map lent (take l.at l.all))
    (unwrap_or (option_map (λ q. map tree q.items) l.out) (map lent (take l.at l.all)))
    l.initial.changed l.changed
