use Rattle.std.proofs.Common.{◌≡◌, ◌-◌, take, drop}
use Rattle.aql_block.specs.Tables.{rows_of}
use Rattle.aql_exec_cluster.proofs.blocks.copy_range.Given as goal

abbrev pub invariant-loop-at : goal.invariant-loop-at
invariant-loop-at l = record {
  registers : l.copy.registers ≡ l.block.registers;
  room : l.copy.room ≡ l.end - l.from;
  rows : rows_of l.copy ≡ take (l.at - l.from) (drop l.from (rows_of l.block));
}
