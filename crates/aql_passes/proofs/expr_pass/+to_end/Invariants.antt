use Rattle.aql_plan.specs.Nodes.{weight}
use Rattle.aql_plan.specs.View.{plan_tree}
use Rattle.aql_passes.proofs.expr_pass.+to_end.Given as goal

abbrev pub decreases-to_end : goal.decreases-to_end
decreases-to_end g l = weight (plan_tree l.plan.now)
