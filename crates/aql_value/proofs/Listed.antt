-- The elements of an array and the attributes of an object, as they are listed.
use Rattle.std.proofs.Common.{◌≡◌, ℕ, List, Some, ap}
use Rattle.aql_value.specs.Datum.{Datum, array, array_of, object, object_of}
use Rattle.aql_value.specs.Contents.{items_of, members_of}
use Rattle.aql_value.specs.laws.Lists.{datum_list-array_of, fields_list-object_of}

pub items_listed : (ts : List Datum) → items_of (array (array_of ts)) ≡ Some ts
items_listed ts = ap Some (datum_list-array_of ts)

pub members_listed : (ms : List (List ℕ × Datum)) → members_of (object (object_of ms)) ≡ Some ms
members_listed ms = ap Some (fields_list-object_of ms)
