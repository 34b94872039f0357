use Rattle.aql_plan.specs.Nodes.{weight}
use Rattle.aql_plan.specs.View.{plan_tree}
use Rattle.test_plans.proofs.tests.passes.+write_plan.Given as goal

abbrev pub decreases-write_plan : goal.decreases-write_plan
decreases-write_plan l = weight (plan_tree l.plan.now)
