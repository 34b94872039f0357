use Rattle.std.proofs.Common.{[]}
use Rattle.aql_shard.specs.Known.{coll_fact}
use Rattle.aql_shard.proofs.Collected.{one_more}
use Rattle.aql_shard.proofs.known.collect_facts.Goals as goal

pub loop-i-preserved : goal.loop-i-preserved
loop-i-preserved c = one_more (coll_fact c.args.servers) [] c.args.catalog.now c.loop-i.i c.loop-i.collections
    c.push.new.self c.in_ok-fact_at.field-0 c.in_ok-fact_at.ensures c.loop-i.invariant c.in_ok-push.ensures.ok
