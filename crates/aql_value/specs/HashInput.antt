-- What hashing a value feeds to a hasher: a tag of its kind, and then its parts in order.
use Rattle.std.specs.Prelude.{ℕ, List, ◌++◌}
use Rattle.std.specs.Hash as fed
use Rattle.aql_value.specs.Datum.{Datum, null, boolean, number, text, array, object, Datums, no_datums, datum_then, Fields, no_fields, field}

abbrev mutual
  pub datum_input : Datum → List (List ℕ)
  datum_input null = fed.u8 0
  datum_input (boolean b) = fed.u8 1 ++ fed.bool b
  datum_input (number z) = fed.u8 2 ++ fed.i64 z
  datum_input (text s) = fed.u8 3 ++ fed.str s
  datum_input (array ts) = fed.u8 4 ++ items_input ts
  datum_input (object fs) = fed.u8 5 ++ fields_input fs

  pub items_input : Datums → List (List ℕ)
  items_input no_datums = fed.u8 6
  items_input (datum_then t ts) = datum_input t ++ items_input ts

  pub fields_input : Fields → List (List ℕ)
  fields_input no_fields = fed.u8 6
  fields_input (field k t fs) = fed.str k ++ (datum_input t ++ fields_input fs)
