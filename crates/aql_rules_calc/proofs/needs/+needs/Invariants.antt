use Rattle.std.proofs.Common.{◌+◌}
use Rattle.aql_plan.specs.View.{plan_tree}
use Rattle.aql_plan.specs.Nodes.{weight}
use Rattle.aql_rules_calc.proofs.needs.+needs.Given as goal

abbrev pub decreases-plan_needs : goal.decreases-plan_needs
decreases-plan_needs l = weight (plan_tree l.plan.now) + (weight (plan_tree l.plan.now) + 1)

abbrev pub decreases-node_uses : goal.decreases-node_uses
decreases-node_uses l = weight (plan_tree l.node.now) + weight (plan_tree l.node.now)
