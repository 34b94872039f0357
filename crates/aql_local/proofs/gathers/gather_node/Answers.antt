use Rattle.aql_engine.specs.contracts.tree.TreeFeed.TheImpl as feed
use Rattle.aql_local.specs.contracts.world.World as world
use Rattle.aql_local.specs.contracts.world.WorldSurroundings.TheImpl as surroundings
use Rattle.aql_local.proofs.OnShards.{with_trees}
use Rattle.aql_local.proofs.gathers.gather_node.Goals as goal

pub returns : goal.returns
returns g c = rw (c.new.ensures.gather, c.new.ensures.scatter, c.new.ensures.fragments) (with_trees
    (feed.ghosts world.the_row g.row.X surroundings.ghosts surroundings.dict g.X.Executor g.X.Executor-dict)
    _ _ _)
