use Rattle.std.proofs.Common.{[]}
use Rattle.aql_shard.specs.Parts.{parts_of}
use Rattle.aql_shard.proofs.Collected.{one_more}
use Rattle.aql_shard.proofs.parts.build_all.Goals as goal

pub loop-i-preserved : goal.loop-i-preserved
loop-i-preserved c = one_more (parts_of c.args.servers) [] c.args.catalog.now c.loop-i.i c.loop-i.all
    c.push.new.self c.in_ok-build_at.field-0 c.in_ok-build_at.ensures c.loop-i.invariant c.in_ok-push.ensures.ok
