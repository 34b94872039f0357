use Rattle.std.proofs.Common.{◌+◌}
use Rattle.aql_plan.specs.Nodes.{weight}
use Rattle.aql_plan.specs.View.{plan_tree}
use Rattle.aql_passes.proofs.changing_pass.+settle.Given as goal

abbrev pub decreases-settle : goal.decreases-settle
decreases-settle g l = weight (plan_tree l.plan) + weight (plan_tree l.plan)

abbrev pub decreases-settle_below : goal.decreases-settle_below
decreases-settle_below g l = weight (plan_tree l.below) + (weight (plan_tree l.below) + 1)
