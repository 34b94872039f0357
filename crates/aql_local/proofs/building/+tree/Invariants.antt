use Rattle.std.proofs.Common.{◌+◌}
use Rattle.aql_plan.specs.View.{plan_tree}
use Rattle.aql_plan.specs.Nodes.{weight}
use Rattle.aql_local.proofs.building.+tree.Given as goal

abbrev pub decreases-tree_of : goal.decreases-tree_of
decreases-tree_of g l = weight (plan_tree l.plan.now) + (weight (plan_tree l.plan.now) + 1)

abbrev pub decreases-body_of : goal.decreases-body_of
decreases-body_of g l = weight (plan_tree l.plan.now) + weight (plan_tree l.plan.now)

abbrev pub decreases-gather_tree : goal.decreases-gather_tree
decreases-gather_tree g l = weight (plan_tree l.plan.now) + weight (plan_tree l.plan.now)
