use Rattle.std.proofs.Common.{◌≡◌, ◌++◌, map, drop}
use Rattle.aql_tree.specs.View.{step_part, steps}
use Rattle.aql_rewrite.specs.Children.{step_children}
use Rattle.aql_rewrite.specs.ExprView.{lent}
use Rattle.aql_rewrite.proofs.looking.add_steps.Given as goal

abbrev pub invariant-loop-step : goal.invariant-loop-step
invariant-loop-step l =
    map lent l.to.items ++ step_children (steps (map step_part (drop l.step-index l.all)))
    ≡ map lent l.initial.to.items ++ step_children (steps (map step_part l.all))
