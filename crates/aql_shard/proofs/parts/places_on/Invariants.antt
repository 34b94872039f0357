use Rattle.std.proofs.Common.{◌≡◌, ◌++◌, drop}
use Rattle.aql_index.specs.Dealing.{places_from}
use Rattle.aql_shard.proofs.parts.places_on.Given as goal

abbrev pub invariant-loop-place : goal.invariant-loop-place
invariant-loop-place l = l.places ++ places_from l.place l.shard (drop l.place l.shards)
    ≡ places_from 0 l.shard l.shards
