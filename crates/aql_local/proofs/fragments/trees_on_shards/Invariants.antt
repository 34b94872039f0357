use Rattle.std.proofs.Common.{◌≡◌, Some, take}
use Rattle.aql_plan.specs.declared.facts.Facts.{Facts}
use Rattle.aql_plan.specs.View.{plan_tree}
use Rattle.aql_engine.specs.Tree.{tree_plan}
use Rattle.aql_engine.specs.OperatorsOf.{each_tree, operators_at}
use Rattle.aql_local.specs.contracts.world.WorldSurroundings.TheImpl.{ghosts}
use Rattle.aql_local.specs.Fragments.{all_trees}
use Rattle.aql_local.proofs.fragments.trees_on_shards.Given as goal

abbrev pub invariant-loop-shard : goal.invariant-loop-shard
invariant-loop-shard g l = (facts : Facts) → all_trees (tree_plan g.X.Executor ghosts) l.trees.items
    ≡ each_tree (λ shard. operators_at facts (Some shard) (plan_tree l.plan)) (take l.shard-index l.shards)
