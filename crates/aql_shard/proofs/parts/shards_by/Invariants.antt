use Rattle.std.proofs.Common.{◌≡◌, map, take}
use Rattle.aql_value.specs.View.{datums_in}
use Rattle.aql_shard.specs.Sharding.{shard_by}
use Rattle.aql_shard.proofs.parts.shards_by.Given as goal

abbrev pub invariant-loop-document : goal.invariant-loop-document
invariant-loop-document l =
    l.all ≡ map (shard_by l.shards l.keys) (datums_in (take l.document-index l.documents))
