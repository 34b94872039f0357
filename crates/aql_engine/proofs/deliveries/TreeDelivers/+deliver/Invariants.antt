use Rattle.aql_exec.specs.Operators.{height}
use Rattle.aql_engine.specs.Tree.{tree_plan}
use Rattle.aql_engine.proofs.deliveries.TreeDelivers.+deliver.Given as goal

abbrev pub decreases-deliver : goal.decreases-deliver
decreases-deliver g l = height (tree_plan g.X.Executor g.W.Surroundings l.self.now)
