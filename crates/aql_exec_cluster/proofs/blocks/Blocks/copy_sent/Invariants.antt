use Rattle.std.proofs.Common.{◌≡◌, ◌≤◌, length}
use Rattle.aql_exec_cluster.specs.Shared.{rows_at}
use Rattle.aql_exec_cluster.specs.Routings.{rows_to}
use Rattle.aql_exec_cluster.proofs.blocks.Blocks.copy_sent.Given as goal

-- none of the rows that were passed comes to the shard
abbrev pub invariant-loop-block : goal.invariant-loop-block
invariant-loop-block l = record {
  rows : rows_to l.routing l.target (rows_at l.self l.place)
      ≡ rows_to l.routing l.target (rows_at l.fn.self l.fn.place);
  left : length (rows_at l.self l.place) ≤ length (rows_at l.fn.self l.fn.place);
}

abbrev pub decreases-loop-block : goal.decreases-loop-block
decreases-loop-block l = length (rows_at l.self l.place)
