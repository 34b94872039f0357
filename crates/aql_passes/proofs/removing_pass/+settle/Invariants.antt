use Rattle.std.proofs.Common.{◌+◌}
use Rattle.aql_plan.specs.Nodes.{weight}
use Rattle.aql_plan.specs.View.{plan_tree}
use Rattle.aql_passes.proofs.removing_pass.+settle.Given as goal

abbrev pub decreases-settle : goal.decreases-settle
decreases-settle g l = weight (plan_tree l.plan) + (weight (plan_tree l.plan) + 1)

abbrev pub decreases-settle_body : goal.decreases-settle_body
decreases-settle_body g l = weight (plan_tree l.part) + weight (plan_tree l.part)
