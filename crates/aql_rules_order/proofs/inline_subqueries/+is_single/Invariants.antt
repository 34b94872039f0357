use Rattle.aql_plan.specs.Nodes.{weight}
use Rattle.aql_plan.specs.View.{plan_tree}
use Rattle.aql_rules_order.proofs.inline_subqueries.+is_single.Given as goal

abbrev pub decreases-is_single : goal.decreases-is_single
decreases-is_single l = weight (plan_tree l.plan.now)
