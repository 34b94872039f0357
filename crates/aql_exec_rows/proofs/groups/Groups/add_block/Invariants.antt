use Rattle.std.proofs.Common.{◌+◌, ◌≤◌, ◌++◌, List, length, map, take}
use Rattle.aql_block.specs.Tables.{rows_of}
use Rattle.aql_meaning.specs.Groups.{GroupedRow}
use Rattle.aql_exec_rows.specs.GroupStates.{seen, Holds}
use Rattle.aql_exec_rows.proofs.groups.Groups.add_block.Given as goal

abbrev pub invariant-loop-at : goal.invariant-loop-at
invariant-loop-at l = record {
  holds : (rows : List GroupedRow) × Holds l.grouping l.kinds rows l.self;
  held : (rows : List GroupedRow) → Holds l.grouping l.kinds rows l.fn.self
      → Holds l.grouping l.kinds (rows ++ map (seen l.grouping) (take l.at (rows_of l.block))) l.self;
  count : length l.self.kept.items ≤ length l.fn.self.kept.items + l.at;
}
