use Rattle.std.proofs.Common.{◌≡◌, ◌+◌, ◌++◌, length, map, reverse}
use Rattle.aql_block.specs.Tables.{rows_of}
use Rattle.aql_exec_rows.specs.GroupStates.{finished_in}
use Rattle.aql_exec_rows.specs.Framed.{framed}
use Rattle.aql_exec_rows.proofs.frame.Frame.take_last.Given as goal

-- the rows that were taken, and the groups that are left
abbrev pub invariant-loop-taken : goal.invariant-loop-taken
invariant-loop-taken l = record {
  registers : l.block.registers ≡ l.self.registers.items;
  room : l.block.room ≡ l.count;
  taken : length (rows_of l.block) ≡ l._taken;
  left : length l.groups.items + l._taken ≡ length l.initial.groups.items;
  rows : rows_of l.block ++ map (framed l.self) (reverse (finished_in l.groups.items))
      ≡ map (framed l.self) (reverse (finished_in l.initial.groups.items));
}
