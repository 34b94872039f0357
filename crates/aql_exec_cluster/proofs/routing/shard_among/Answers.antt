use Rattle.std.proofs.Common.{rules}
use Rattle.aql_value.specs.Shards.{shard_of}
use Rattle.aql_exec_cluster.proofs.routing.shard_among.Goals as goal

pub returns : goal.returns
unfolding shard_of
returns c = search rules
