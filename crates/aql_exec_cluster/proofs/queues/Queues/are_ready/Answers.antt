use Rattle.std.proofs.Common.{below_more}
use Rattle.aql_exec_cluster.proofs.queues.Queues.are_ready.Goals as goal

pub loop-input-preserved : goal.loop-input-preserved
loop-input-preserved c =
    below_more _ _ c.loop-input.invariant (c.is_ready.ensures.yes c.if-not-is_ready.false)
