use Rattle.std.proofs.Common.{◌≡◌, take}
use Rattle.aql_value.specs.Fields.{fields_in}
use Rattle.aql_value.proofs.copying.copy_entries.Given as goal

abbrev pub invariant-loop-entry : goal.invariant-loop-entry
invariant-loop-entry l = fields_in l.copies.items ≡ fields_in (take l.entry-index l.entries)
