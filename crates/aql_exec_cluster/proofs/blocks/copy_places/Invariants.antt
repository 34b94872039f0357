use Rattle.std.proofs.Common.{◌≡◌, length, take}
use Rattle.aql_block.specs.Tables.{rows_of}
use Rattle.aql_exec_cluster.specs.Routings.{rows_at_places}
use Rattle.aql_exec_cluster.proofs.blocks.copy_places.Given as goal

abbrev pub invariant-loop-at : goal.invariant-loop-at
invariant-loop-at l = record {
  registers : l.copy.registers ≡ l.block.registers;
  room : l.copy.room ≡ length l.places;
  count : length (rows_of l.copy) ≡ l.at-index;
  rows : rows_of l.copy ≡ rows_at_places (rows_of l.block) (take l.at-index l.places);
}
