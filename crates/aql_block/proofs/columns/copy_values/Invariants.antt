use Rattle.std.proofs.Common.{◌≡◌, take}
use Rattle.aql_block.specs.Tables.{cells}
use Rattle.aql_block.specs.Columns.{values_at}
use Rattle.aql_block.specs.Entries.{entries_in}
use Rattle.aql_block.proofs.columns.copy_values.Given as goal

abbrev pub invariant-loop-place : goal.invariant-loop-place
invariant-loop-place l =
    entries_in l.entries.items ≡ take l.place (cells l.registers (values_at l.columns l.at))
