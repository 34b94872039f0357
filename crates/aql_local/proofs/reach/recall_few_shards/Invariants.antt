use Rattle.std.proofs.Common.{ℕ, ◌<◌, ◌^◌}
use Rattle.aql_shard.specs.Known.{shards_of}
use Rattle.aql_local.proofs.reach.recall_few_shards.Given as goal

abbrev pub invariant-loop-coll : goal.invariant-loop-coll
invariant-loop-coll l = (number : ℕ) → number < l.coll → shards_of l.servers.servers l.servers.held number < 2 ^ 32
