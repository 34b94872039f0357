use Rattle.std.proofs.Common.{rules}
use Rattle.aql_value.specs.Shards.{shard_of}
use Rattle.aql_shard.proofs.sharding.shard_by.Goals as goal

pub returns : goal.returns
unfolding shard_of
returns c = search rules
