use Rattle.aql_plan.specs.Nodes.{weight}
use Rattle.aql_plan.specs.View.{plan_tree}
use Rattle.aql_rules_order.proofs.inline_subqueries.+has_collect.Given as goal

abbrev pub decreases-has_collect : goal.decreases-has_collect
decreases-has_collect l = weight (plan_tree l.plan.now)
