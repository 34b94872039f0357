use Rattle.std.proofs.Common.{◌≡◌, ◌++◌, map, drop}
use Rattle.aql_tree.specs.View.{tree}
use Rattle.aql_rewrite.specs.ExprView.{each_over}
use Rattle.aql_rewrite.proofs.rebuilding.over_exprs.Given as goal

abbrev pub invariant-loop-old : goal.invariant-loop-old
invariant-loop-old l =
    map tree l.out ++ each_over (map tree (drop l.old-index l.all)) (map tree l.queue.items)
    ≡ each_over (map tree l.all) (map tree l.initial.queue.items)
