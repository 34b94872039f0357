use Rattle.std.proofs.Common.{◌≡◌, ◌++◌, map, drop}
use Rattle.aql_tree.specs.View.{tree, step_part}
use Rattle.aql_rewrite.specs.ExprView.{steps_over}
use Rattle.aql_rewrite.proofs.rebuilding.over_steps.Given as goal

abbrev pub invariant-loop-old : goal.invariant-loop-old
invariant-loop-old l =
    map step_part l.out ++ steps_over (map step_part (drop l.old-index l.all)) (map tree l.queue.items)
    ≡ steps_over (map step_part l.all) (map tree l.initial.queue.items)
