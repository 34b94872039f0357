use Rattle.aql_block.specs.Columns.{first_of}
use Rattle.aql_block.proofs.Steps.{Worked}
use Rattle.aql_block.proofs.columns.truncate_all.Given as goal

abbrev pub invariant-loop-column : goal.invariant-loop-column
invariant-loop-column l = Worked (first_of l.len) l.column-index l.column-items l.fn.columns
