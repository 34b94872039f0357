use Rattle.std.proofs.Common.{◌≡◌, ◌≤◌, length, take, vec_len, vec_capacity}
use Rattle.aql_block.specs.Tables.{cells}
use Rattle.aql_block.specs.Columns.{values_at, without}
use Rattle.aql_block.specs.Entries.{entries_in}
use Rattle.aql_block.proofs.Steps.{Worked}
use Rattle.aql_block.proofs.columns.take_values.Given as goal

abbrev pub invariant-loop-place : goal.invariant-loop-place
invariant-loop-place l =
    Worked (without l.at) l.place l.columns l.fn.columns
    × (entries_in l.entries.items ≡ take l.place (cells l.registers (values_at l.fn.columns l.at)))
    × (length l.registers ≤ vec_capacity l.entries)
    × (vec_len l.entries ≡ l.place)
