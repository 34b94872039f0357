use Rattle.aql_plan.specs.View.{plan_tree}
use Rattle.aql_plan.specs.Nodes.{weight}
use Rattle.aql_opt.proofs.estimates.+estimate.Given as goal

abbrev pub decreases-estimate : goal.decreases-estimate
decreases-estimate l = weight (plan_tree l.plan.now)
