-- The lists of an array and of an object, and back.
use Rattle.std.proofs.Common.{◌≡◌, ℕ, List, [], ◌∷◌, refl, ap}
use Rattle.aql_value.specs.Datum.{Datum, Datums, no_datums, datum_then, Fields, no_fields, field, array_of, object_of}
use Rattle.aql_value.specs.Contents.{datum_list, fields_list}

pub datum_list-array_of : (ts : List Datum) → datum_list (array_of ts) ≡ ts
datum_list-array_of [] = refl
datum_list-array_of (t ∷ ts) = ap (λ rest. t ∷ rest) (datum_list-array_of ts)

pub fields_list-object_of : (fs : List (List ℕ × Datum)) → fields_list (object_of fs) ≡ fs
fields_list-object_of [] = refl
fields_list-object_of (f ∷ fs) = ap (λ rest. f ∷ rest) (fields_list-object_of fs)

pub array_of-datum_list : (ts : Datums) → array_of (datum_list ts) ≡ ts
array_of-datum_list no_datums = refl
array_of-datum_list (datum_then t ts) = ap (datum_then t) (array_of-datum_list ts)

pub object_of-fields_list : (fs : Fields) → object_of (fields_list fs) ≡ fs
object_of-fields_list no_fields = refl
object_of-fields_list (field k t fs) = ap (field k t) (object_of-fields_list fs)
