-- An argument that may be left out, as the definitions see it.
use Rattle.std.specs.Prelude.{Option, option_map}
use Rattle.std.specs.Borrow.{Bor}
use Rattle.aql_value.specs.Datum.{Datum}
use Rattle.aql_value.specs.View.{datum_of}
use Rattle.aql_value.specs.declared.values.Value.{Value}

abbrev pub optional_datum : Option (Bor Value) → Option Datum
optional_datum o = option_map (λ (v : Bor Value). datum_of v.now) o
