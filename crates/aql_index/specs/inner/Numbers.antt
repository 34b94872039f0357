-- The entry of a document whose values are one or two numbers; for private clauses.
use Rattle.std.specs.Prelude.{ℤ, List, [], ◌∷◌, Option, Some, None}
use Rattle.aql_value.specs.Datum.{Datum, number}
use Rattle.aql_index.specs.declared.entries.Entry.{Entry}
use Rattle.aql_index.specs.declared.numbers.Numbers.{Numbers}

abbrev pub number_keys : ℤ → Option ℤ → List Datum
number_keys first None = number first ∷ []
number_keys first (Some second) = number first ∷ number second ∷ []

abbrev pub entry_of : Numbers → Entry
entry_of n = record { keys = number_keys n.first n.second; place = n.place }
