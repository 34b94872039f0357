use Rattle.aql_plan.specs.View.{plan_tree}
use Rattle.aql_plan.specs.Nodes.{weight}
use Rattle.aql_local.proofs.fragments.+tree_on_shard.Given as goal

abbrev pub decreases-tree_on_shard : goal.decreases-tree_on_shard
decreases-tree_on_shard g l = weight (plan_tree l.plan.now)
