use Rattle.std.proofs.Common.{◌+◌}
use Rattle.aql_plan.specs.Nodes.{weight}
use Rattle.aql_plan.specs.View.{plan_tree}
use Rattle.aql_passes.proofs.first_rewrite.+rewrite.Given as goal

abbrev pub decreases-rewrite_first : goal.decreases-rewrite_first
decreases-rewrite_first g l = weight (plan_tree l.plan.now) + (weight (plan_tree l.plan.now) + 1)

abbrev pub decreases-rewrite_below : goal.decreases-rewrite_below
decreases-rewrite_below g l = weight (plan_tree l.below.now) + (weight (plan_tree l.below.now) + 2)

abbrev pub decreases-rewrite_here : goal.decreases-rewrite_here
decreases-rewrite_here g l = weight (plan_tree l.part.now) + weight (plan_tree l.part.now)
