use Rattle.aql_plan.specs.Nodes.{weight}
use Rattle.aql_plan.specs.View.{plan_tree}
use Rattle.aql_rules_cluster.proofs.cluster_pass.+walk.Given as goal

abbrev pub decreases-walk : goal.decreases-walk
decreases-walk g l = weight (plan_tree l.plan)
