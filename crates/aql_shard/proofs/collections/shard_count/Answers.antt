use Rattle.std.proofs.Common.{refl}
use Rattle.aql_shard.proofs.Collected.{one_counted, all_counted}
use Rattle.aql_shard.proofs.collections.shard_count.Goals as goal

pub returns-then-servers-eq0 : goal.returns-then-servers-eq0
returns-then-servers-eq0 c = one_counted c.args.servers c.args.info.now 1 c.if-servers-eq0.true refl

pub returns-else-servers-eq0 : goal.returns-else-servers-eq0
returns-else-servers-eq0 c =
    all_counted c.args.servers c.args.info.now c.args.info.now.shards c.if-servers-eq0.false refl
