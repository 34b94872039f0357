use Rattle.std.proofs.Common.{◌+◌}
use Rattle.aql_plan.specs.View.{plan_tree}
use Rattle.aql_plan.specs.Nodes.{weight}
use Rattle.aql_plan_check.proofs.sets.+numbers.Given as goal

abbrev pub decreases-sets_numbers : goal.decreases-sets_numbers
decreases-sets_numbers l = weight (plan_tree l.plan.now) + (weight (plan_tree l.plan.now) + 1)

abbrev pub decreases-top_sets_numbers : goal.decreases-top_sets_numbers
decreases-top_sets_numbers l = weight (plan_tree l.plan.now) + weight (plan_tree l.plan.now)
