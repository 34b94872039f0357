use Rattle.std.proofs.Common.{◌≡◌, drop}
use Rattle.aql_block.proofs.Sought.{value_in}
use Rattle.aql_block.proofs.rows.Row.value.Given as goal

abbrev pub invariant-loop-entry : goal.invariant-loop-entry
invariant-loop-entry l = value_in l.var (drop l.entry-index l.entry-items) ≡ value_in l.var l.entry-items
