use Rattle.std.proofs.Common.{◌+◌, ◌*◌}
use Rattle.aql_plan.specs.View.{plan_tree}
use Rattle.aql_plan.specs.Nodes.{weight}
use Rattle.aql_plan_check.proofs.plan_shape.+shape.Given as goal

abbrev pub decreases-shape : goal.decreases-shape
decreases-shape l = 4 * weight (plan_tree l.plan.now) + 2

abbrev pub decreases-shape_above : goal.decreases-shape_above
decreases-shape_above l = 4 * weight (plan_tree l.plan.now) + 1

abbrev pub decreases-body_fits : goal.decreases-body_fits
decreases-body_fits l = 4 * weight (plan_tree l.plan.now)

abbrev pub decreases-has_result : goal.decreases-has_result
decreases-has_result l = 4 * weight (plan_tree l.plan.now) + 3
