-- The parts of a value (AQL fundamentals, Data types; Operators, Array and attribute access): the elements of
-- an array, the attributes of an object, and access to one of them. Access that finds nothing gives null.
use Rattle.std.specs.Prelude.{ℕ, ℤ, pos, negsuc, List, [], ◌∷◌, Bool, cond, Option, Some, None, unwrap_or, length, nat_lt, ◌-◌, slice_get}
use Rattle.std.specs.Ordering.{is_eq, is_lt}
use Rattle.std.specs.List.{list_any}
use Rattle.aql_value.specs.Datum.{Datum, null, number, text, array, object, Datums, no_datums, datum_then, Fields, no_fields, field, array_of, object_of}
use Rattle.aql_value.specs.Compare.{compare}
use Rattle.aql_value.specs.Attributes.{attribute}

-- an array of these elements, and an object of these attributes
abbrev pub list : List Datum → Datum
list ts = array (array_of ts)

abbrev pub record_of : List (List ℕ × Datum) → Datum
record_of fs = object (object_of fs)

abbrev pub datum_list : Datums → List Datum
datum_list no_datums = []
datum_list (datum_then t ts) = t ∷ datum_list ts

abbrev pub fields_list : Fields → List (List ℕ × Datum)
fields_list no_fields = []
fields_list (field k t fs) = (k, t) ∷ fields_list fs

-- the elements of an array; nothing else has elements
abbrev pub elements : Datum → List Datum
elements (array ts) = datum_list ts
elements t = []

-- the attributes of an object, by name; nothing else has attributes
abbrev pub attributes : Datum → List (List ℕ × Datum)
attributes (object fs) = fields_list fs
attributes t = []

-- the same, and none for any other value
abbrev pub items_of : Datum → Option (List Datum)
items_of (array ts) = Some (datum_list ts)
items_of t = None

abbrev pub members_of : Datum → Option (List (List ℕ × Datum))
members_of (object fs) = Some (fields_list fs)
members_of t = None

-- identical values, and the strict order of values
abbrev pub same : Datum → Datum → Bool
same s t = is_eq (compare s t)

abbrev pub is_below : Datum → Datum → Bool
is_below s t = is_lt (compare s t)

-- whether the value is one of the list
abbrev pub is_in : List Datum → Datum → Bool
is_in ts t = list_any (same t) ts

-- `t.name`
abbrev pub at_name : Datum → List ℕ → Datum
at_name t name = unwrap_or (attribute name (attributes t)) null

-- `t[place]`, where a negative place counts from the end
abbrev pub at_index : List Datum → ℤ → Datum
at_index ts (pos n) = unwrap_or (slice_get ts n) null
at_index ts (negsuc n) = cond (nat_lt n (length ts)) (unwrap_or (slice_get ts (length ts - 1 - n)) null) null

-- `t[v]`: an attribute by its name or an element by its place, and null for everything else
abbrev pub at_value : Datum → Datum → Datum
at_value t (text name) = at_name t name
at_value t (number place) = at_index (elements t) place
at_value t v = null
