use Rattle.std.proofs.Common.{◌≡◌, length, arith}
use Rattle.aql_shard.proofs.Dealt.{handed_next}
use Rattle.aql_shard.proofs.parts.hand_out.Goals as goal

pub loop-index-preserved : goal.loop-index-preserved
loop-index-preserved c =
    let at : c.len.result ≡ length c.pop.new.self.items = omega (arith, c.len.ensures, c.pop.new.self.ok.0) in
    let next = handed_next c.loop-index.list _ c.loop-index.indexes.items c.pop.new.self.items c.in-Some.index
    c.len.result c.index-list-len.result c.push.new.self c.loop-index.invariant.rest c.loop-index.invariant.within
    c.in-Some.ensures.items at c.index-list-len.is c.in_ok-push.ensures.ok in
    record { rest = next.0; within = next.1 }
