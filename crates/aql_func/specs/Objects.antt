-- Objects: attributes that are set, kept or left out, and the parts of an id (the chapter of the AQL manual
-- on document and object functions).
use Rattle.std.specs.Prelude.{ℕ, List, [], ◌∷◌, Bool, cond, not, ◌&&◌, ◌==◌, filter, flat_map, fold, length, codes, Option, None, Some, unwrap_or, option_map}
use Rattle.std.specs.List.{list_any, list_all, before_first, after_first}
use Rattle.aql_value.specs.Datum.{Datum, null, text, object}
use Rattle.aql_value.specs.Contents.{record_of, attributes, at_name, is_in}
use Rattle.aql_value.specs.Attributes.{with_attribute}
use Rattle.aql_func.specs.Arguments.{is_object, elements_or_self}

-- the first attributes with all of the second set in them
abbrev pub with_all : List (List ℕ × Datum) → List (List ℕ × Datum) → List (List ℕ × Datum)
with_all fs gs = fold (λ ms (g : List ℕ × Datum). with_attribute g.0 g.1 ms) fs gs

-- all attributes, later ones win; null where one of the values is no object
abbrev pub merge : List Datum → Datum
merge ts = cond (list_all is_object ts) (record_of (fold (λ fs t. with_all fs (attributes t)) [] ts)) null

-- whether the arguments name an attribute, by a text or in an array
abbrev pub are_naming : List Datum → List ℕ → Bool
are_naming args name = is_in (flat_map elements_or_self args) (text name)

abbrev pub only_named : List Datum → List (List ℕ × Datum) → List (List ℕ × Datum)
only_named args fs = filter (λ (f : List ℕ × Datum). are_naming args f.0) fs

abbrev pub without_named : List Datum → List (List ℕ × Datum) → List (List ℕ × Datum)
without_named args fs = filter (λ (f : List ℕ × Datum). not (are_naming args f.0)) fs

-- `/` is 47
abbrev pub is_slash : ℕ → Bool
is_slash c = c == 47

-- an id text has exactly one `/`, and neither side of it is empty
abbrev pub is_id : List ℕ → Bool
is_id s = let key = after_first is_slash s in
    not (length (before_first is_slash s) == 0) && (not (length key == 0) && not (list_any is_slash key))

-- the collection and the key of an id text
abbrev pub identifier : List ℕ → Datum
identifier s = record_of ((codes "collection", text (before_first is_slash s))
    ∷ (codes "key", text (after_first is_slash s)) ∷ [])

abbrev pub id_of_text : Datum → Option (List ℕ)
id_of_text (text s) = cond (is_id s) (Some s) None
id_of_text t = None

-- the id text of a value: the value itself, or an object's `_id`
abbrev pub id_text : Datum → Option (List ℕ)
id_text (object fs) = id_of_text (at_name (object fs) (codes "_id"))
id_text t = id_of_text t

-- null where there is no id text
abbrev pub identifier_or_null : Option (List ℕ) → Datum
identifier_or_null id = unwrap_or (option_map identifier id) null

abbrev pub parse_identifier : Datum → Datum
parse_identifier t = identifier_or_null (id_text t)
