use Rattle.std.proofs.Common.{arith}
use Rattle.aql_exec_cluster.proofs.Sorted.{count_more, count_all}
use Rattle.aql_exec_cluster.proofs.queues.Queues.len.Goals as goal

pub loop-input-preserved : goal.loop-input-preserved
loop-input-preserved c =
    count_more c.args.self.now.list.items c.loop-input.input c.loop-input.count c.len_at-more.result _
    c.len_at-more.ensures c.saturating_add-count.ensures c.loop-input.invariant

pub returns : goal.returns
returns c =
    let n = c.len-input-end.ensures in
    let ok = c.args.self.now.list.ok.0 in
    count_all c.args.self.now.list.items c.loop-input.input c.loop-input.count (omega (arith, n, ok))
    c.loop-input.invariant
