use Rattle.std.proofs.Common.{◌≡◌, map, take}
use Rattle.aql_plan.specs.Facts.{numbers_below}
use Rattle.aql_shard.specs.Sharding.{shard_by}
use Rattle.aql_shard.specs.inner.Dealt.{part_dealt}
use Rattle.aql_shard.proofs.parts.build_shards.Given as goal

abbrev pub invariant-loop-index : goal.invariant-loop-index
invariant-loop-index l =
    l.parts ≡ map (part_dealt (take l.index-index l.indexes) (map (shard_by l.shards l.keys) l.documents))
    (numbers_below l.shards)
