-- One tree more for each step of the loop, and at its end one for each shard.
use Rattle.std.proofs.Common.{◌∙◌, Some, ap, arith}
use Rattle.std.proofs.lemmas.List.{take_all}
use Rattle.aql_plan.specs.View.{plan_tree}
use Rattle.aql_engine.specs.Tree.{tree_plan}
use Rattle.aql_engine.specs.OperatorsOf.{each_tree, operators_at}
use Rattle.aql_local.specs.contracts.world.WorldSurroundings.TheImpl.{ghosts}
use Rattle.aql_local.proofs.OnShards.{trees_more}
use Rattle.aql_local.proofs.fragments.trees_on_shards.Goals as goal

pub loop-shard-preserved : goal.loop-shard-preserved
loop-shard-preserved g c facts = trees_more (tree_plan g.X.Executor ghosts)
    (λ shard. operators_at facts (Some shard) (plan_tree c.args.plan.now)) c.args.shards.now
    c.loop-shard.trees.items _ c.loop-shard.shard-index c.in_ok-tree_on_shard.field-0
    (c.loop-shard.invariant facts) (omega (arith, c.loop-shard-test.true)) c.in_ok-push.ensures.items
    (c.in_ok-tree_on_shard.ensures facts)

pub returns : goal.returns
returns g c facts = c.loop-shard.invariant facts
    ∙ ap (each_tree (λ shard. operators_at facts (Some shard) (plan_tree c.args.plan.now)))
    (take_all c.loop-shard.shard-index c.args.shards.now (omega (arith, c.loop-shard-test.false)))
