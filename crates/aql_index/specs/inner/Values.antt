-- The values of an index's attributes as the program keeps them; for private clauses.
use Rattle.std.specs.Prelude.{List, [], ◌∷◌}
use Rattle.aql_value.specs.Datum.{Datum}
use Rattle.aql_value.specs.View.{datum_of}
use Rattle.aql_index.specs.declared.keys.Values.{Values}
use Rattle.aql_index.specs.declared.keys.Values.TheVariants.{One, Several}

abbrev pub datums_of : Values → List Datum
datums_of (One v) = datum_of v ∷ []
datums_of (Several values) = values
