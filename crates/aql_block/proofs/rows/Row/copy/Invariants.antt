use Rattle.std.proofs.Common.{◌≡◌, take}
use Rattle.aql_block.specs.Entries.{entries_in}
use Rattle.aql_block.proofs.rows.Row.copy.Given as goal

abbrev pub invariant-loop-entry : goal.invariant-loop-entry
invariant-loop-entry l = entries_in l.entries.items ≡ entries_in (take l.entry-index l.entry-items)
