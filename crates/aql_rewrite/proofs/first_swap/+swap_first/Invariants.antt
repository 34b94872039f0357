use Rattle.std.proofs.Common.{◌+◌}
use Rattle.aql_plan.specs.View.{plan_tree}
use Rattle.aql_plan.specs.Nodes.{weight}
use Rattle.aql_rewrite.proofs.first_swap.+swap_first.Given as goal

abbrev pub decreases-swap_first : goal.decreases-swap_first
decreases-swap_first g l = weight (plan_tree l.plan.now) + (weight (plan_tree l.plan.now) + 1)

abbrev pub decreases-swap_here : goal.decreases-swap_here
decreases-swap_here g l = weight (plan_tree l.plan.now) + weight (plan_tree l.plan.now)

abbrev pub decreases-swap_first_below : goal.decreases-swap_first_below
decreases-swap_first_below g l = weight (plan_tree l.plan.now) + weight (plan_tree l.plan.now)
