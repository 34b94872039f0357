use Rattle.std.proofs.Common.{◌≡◌, ◌+◌, ◌++◌, length, reverse}
use Rattle.aql_block.specs.Tables.{rows_of}
use Rattle.aql_exec_rows.specs.Keys.{keyed_in, rows_alone}
use Rattle.aql_exec_rows.specs.Sorting.{AllHave}
use Rattle.aql_exec_rows.proofs.sort.give_alike.Given as goal

-- the rows that were moved, and those that are left
abbrev pub invariant-loop-moved : goal.invariant-loop-moved
invariant-loop-moved l = record {
  registers : l.block.registers ≡ l.registers;
  room : l.block.room ≡ l.count;
  moved : length (rows_of l.block) ≡ l._moved;
  left : length l.held.items + l._moved ≡ length l.initial.held.items;
  alike : AllHave l.block.registers (keyed_in l.held.items);
  rows : rows_of l.block ++ rows_alone (reverse (keyed_in l.held.items))
      ≡ rows_alone (reverse (keyed_in l.initial.held.items));
}
