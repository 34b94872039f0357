use Rattle.std.proofs.Common.{below_more}
use Rattle.aql_exec_cluster.proofs.queues.Queues.next_to_ask.Goals as goal

pub loop-input-preserved : goal.loop-input-preserved
loop-input-preserved c =
    below_more _ _ c.loop-input.invariant (c.may_ask.ensures.not_so c.if-may_ask.false)
