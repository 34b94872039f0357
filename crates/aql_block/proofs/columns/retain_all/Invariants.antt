use Rattle.aql_block.specs.Columns.{marked_of}
use Rattle.aql_block.proofs.Steps.{Worked}
use Rattle.aql_block.proofs.columns.retain_all.Given as goal

abbrev pub invariant-loop-column : goal.invariant-loop-column
invariant-loop-column l = Worked (marked_of l.marks) l.column-index l.column-items l.fn.columns
