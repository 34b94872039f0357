use Rattle.std.proofs.Common.{◌*◌, ◌+◌}
use Rattle.aql_plan.specs.Nodes.{weight}
use Rattle.aql_plan.specs.Plan.{Over, top}
use Rattle.aql_plan.specs.View.{plan_tree}
use Rattle.aql_passes.proofs.exchange_pass.+settle.Given as goal

abbrev pub decreases-settle : goal.decreases-settle
decreases-settle g l = 3 * weight (plan_tree l.plan) + 2

abbrev pub decreases-sink : goal.decreases-sink
decreases-sink g l = 3 * weight (Over (plan_tree l.below) (top (plan_tree l.node))) + 1

abbrev pub decreases-settle_body : goal.decreases-settle_body
decreases-settle_body g l = 3 * weight (Over (plan_tree l.below) (top (plan_tree l.node)))
