use Rattle.std.proofs.Common.{◌+◌, ◌*◌}
use Rattle.aql_plan.specs.View.{plan_tree}
use Rattle.aql_plan.specs.Nodes.{weight}
use Rattle.aql_plan_check.proofs.uses.+finding.Given as goal

abbrev pub decreases-rows_find : goal.decreases-rows_find
decreases-rows_find l = 3 * weight (plan_tree l.plan.now) + 1

abbrev pub decreases-body_finds : goal.decreases-body_finds
decreases-body_finds l = 3 * weight (plan_tree l.plan.now)

abbrev pub decreases-result_finds : goal.decreases-result_finds
decreases-result_finds l = 3 * weight (plan_tree l.plan.now) + 2
