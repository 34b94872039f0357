use Rattle.std.proofs.Common.{◌≡◌, drop}
use Rattle.aql_value.specs.Attributes.{attribute}
use Rattle.aql_value.specs.Fields.{fields_in}
use Rattle.aql_value.proofs.attributes.value_among.Given as goal

abbrev pub invariant-loop-entry : goal.invariant-loop-entry
invariant-loop-entry l =
    attribute l.name (fields_in l.entries) ≡ attribute l.name (fields_in (drop l.entry-index l.entries))
