use Rattle.std.proofs.Common.{◌≡◌, map, take}
use Rattle.aql_tree.specs.View.{step_part}
use Rattle.aql_rules_calc.proofs.simplify_conditions.copy_steps.Given as goal

abbrev pub invariant-loop-step : goal.invariant-loop-step
invariant-loop-step l = map step_part l.out ≡ map step_part (take l.step-index l.all)
