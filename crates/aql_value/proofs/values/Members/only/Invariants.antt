use Rattle.std.proofs.Common.{◌≡◌, List, ℕ, take, filter}
use Rattle.std.specs.Prelude.{bytes_eq}
use Rattle.std.specs.List.{list_any}
use Rattle.aql_value.specs.Datum.{Datum}
use Rattle.aql_value.specs.Fields.{fields_in}
use Rattle.aql_value.proofs.values.Members.only.Given as goal

-- the attributes so far are those of these names among the first ones
abbrev pub invariant-loop-entry : goal.invariant-loop-entry
invariant-loop-entry l = fields_in l.found.items ≡ filter
    (λ (attribute : List ℕ × Datum). list_any (bytes_eq attribute.0) l.names)
    (fields_in (take l.entry-index l.entries))
