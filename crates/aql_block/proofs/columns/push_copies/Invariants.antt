use Rattle.std.proofs.Common.{drop}
use Rattle.aql_value.specs.View.{datum_of}
use Rattle.aql_block.specs.Rows.{row_of}
use Rattle.aql_block.specs.Columns.{copied_values}
use Rattle.aql_block.proofs.Steps.{Pushing}
use Rattle.aql_block.proofs.columns.push_copies.Given as goal

abbrev pub invariant-loop-at : goal.invariant-loop-at
invariant-loop-at l =
    Pushing l.at l.columns l.fn.columns
    (copied_values (drop l.at l.registers) l.var (row_of l.row) (datum_of l.value))
    (copied_values l.registers l.var (row_of l.row) (datum_of l.fn.value))
