use Rattle.std.proofs.Common.{drop}
use Rattle.aql_block.specs.Rows.{row_of, HasAll}
use Rattle.aql_block.specs.Columns.{moved_values}
use Rattle.aql_block.proofs.Steps.{Pushing}
use Rattle.aql_block.proofs.columns.push_values.Given as goal

abbrev pub invariant-loop-at : goal.invariant-loop-at
invariant-loop-at l =
    Pushing l.at l.columns l.fn.columns (moved_values (drop l.at l.registers) (row_of l.row))
    (moved_values l.registers (row_of l.fn.row))
    × HasAll (drop l.at l.registers) (row_of l.row)
