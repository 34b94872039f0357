use Rattle.std.proofs.Common.{◌+◌}
use Rattle.aql_plan.specs.View.{plan_tree}
use Rattle.aql_plan.specs.Nodes.{weight}
use Rattle.aql_rewrite.proofs.nodes.+needs.Given as goal

abbrev pub decreases-add_needs : goal.decreases-add_needs
decreases-add_needs l =
    weight (plan_tree l.plan.now) + (weight (plan_tree l.plan.now) + (weight (plan_tree l.plan.now) + 2))

abbrev pub decreases-add_needs_below : goal.decreases-add_needs_below
decreases-add_needs_below l =
    weight (plan_tree l.plan.now) + (weight (plan_tree l.plan.now) + (weight (plan_tree l.plan.now) + 1))

abbrev pub decreases-uses_of : goal.decreases-uses_of
decreases-uses_of l =
    weight (plan_tree l.node.now) + (weight (plan_tree l.node.now) + weight (plan_tree l.node.now))
