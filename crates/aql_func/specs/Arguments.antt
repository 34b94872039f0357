-- What a function makes of its arguments (the chapter of the AQL manual on functions): one that has to be an
-- array or an object, and a sole array that stands for its elements.
use Rattle.std.specs.Prelude.{ℕ, List, [], ◌∷◌, Bool, true, false, cond, map, unwrap_or, slice_get}
use Rattle.std.specs.List.{list_all}
use Rattle.aql_value.specs.Datum.{Datum, null, array, object}
use Rattle.aql_value.specs.Contents.{elements, attributes}

-- the argument at a place, null where it was left out
abbrev pub argument : List Datum → ℕ → Datum
argument args n = unwrap_or (slice_get args n) null

abbrev pub is_array : Datum → Bool
is_array (array ts) = true
is_array t = false

abbrev pub is_object : Datum → Bool
is_object (object fs) = true
is_object t = false

-- what f makes of an array's elements; null for everything else
abbrev pub of_list : Datum → (List Datum → Datum) → Datum
of_list t f = cond (is_array t) (f (elements t)) null

-- the same of several arrays
abbrev pub of_lists : List Datum → (List (List Datum) → Datum) → Datum
of_lists args f = cond (list_all is_array args) (f (map elements args)) null

-- what f makes of an object's attributes; null for everything else
abbrev pub of_object : Datum → (List (List ℕ × Datum) → Datum) → Datum
of_object t f = cond (is_object t) (f (attributes t)) null

-- the elements of an array; any other value by itself
abbrev pub elements_or_self : Datum → List Datum
elements_or_self t = cond (is_array t) (elements t) (t ∷ [])

-- a sole array stands for its elements
abbrev pub spread : List Datum → List Datum
spread [] = []
spread (t ∷ []) = elements_or_self t
spread (t ∷ u ∷ ts) = t ∷ u ∷ ts
