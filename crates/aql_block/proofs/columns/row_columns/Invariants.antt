use Rattle.std.proofs.Common.{◌≡◌, map}
use Rattle.aql_block.specs.Columns.{single_columns}
use Rattle.aql_block.specs.Entries.{entries_in}
use Rattle.aql_block.proofs.columns.row_columns.Given as goal

abbrev pub invariant-loop-entry : goal.invariant-loop-entry
invariant-loop-entry l =
    (l.registers.items ≡ map (λ e. e.0) (entries_in l.yielded))
    × (l.columns.items ≡ single_columns (entries_in l.yielded))
