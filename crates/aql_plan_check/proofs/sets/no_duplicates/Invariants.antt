use Rattle.std.proofs.Common.{◌≡◌, ◌≤◌, drop, length, true}
use Rattle.aql_plan.specs.Variables.{are_distinct}
use Rattle.aql_plan_check.specs.inner.Rows.{variables, Same}
use Rattle.aql_plan_check.proofs.sets.no_duplicates.Given as goal

abbrev pub invariant-loop-at : goal.invariant-loop-at
invariant-loop-at l = record {
  within : l.at ≤ length l.vars;
  seen : Same (variables l.seen.keys) (variables (drop l.at l.vars));
  once : are_distinct (variables (drop l.at l.vars)) ≡ true;
}

abbrev pub decreases-loop-at : goal.decreases-loop-at
decreases-loop-at l = l.at
