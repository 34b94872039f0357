-- The catalog after a declaration of a collection or of a sorted index, or the first fault of the
-- declaration.
use Rattle.std.specs.Prelude.{suc, ℕ, List, [], ◌∷◌, ◌++◌, Bool, Option, Some, None, Result, Ok, Err, if◌then◌else◌, length, nat_lt, bytes_eq, is_some, option_map, slice_get, slice_set}
use Rattle.std.specs.List.{list_any}
use Rattle.std.specs.Cmp.Lexicographic.{pointwise}
use Rattle.aql_doc.specs.Held.{Held}
use Rattle.aql_doc.specs.declared.faults.CatalogFault.{CatalogFault}
use Rattle.aql_doc.specs.declared.faults.CatalogFault.TheVariants.{Twice, TooMany}

-- the number of the collection with a name
abbrev pub collection_index : List Held → List ℕ → Option ℕ
collection_index [] name = None
collection_index (h ∷ held) name =
    if bytes_eq h.info.name name then Some 0 else option_map suc (collection_index held name)

-- a collection without indexes and documents
abbrev pub empty : List ℕ → Bool → ℕ → List (List ℕ) → Held
empty name edge shards keys = record {
  info = record { name = name; edge = edge; shards = shards; keys = keys; indexes = [] };
  documents = [];
}

abbrev pub declare : List Held → List ℕ → Bool → ℕ → List (List ℕ) → Result (List Held) CatalogFault
declare held name edge shards keys =
    if is_some (collection_index held name) then Err Twice
    else (if nat_lt (length held) 64 then Ok (held ++ empty name edge shards keys ∷ []) else Err TooMany)

-- the same names in the same order
abbrev pub are_same : List (List ℕ) → List (List ℕ) → Bool
are_same = pointwise bytes_eq

abbrev pub has_index : List (List (List ℕ)) → List (List ℕ) → Bool
has_index indexes attributes = list_any (λ index. are_same index attributes) indexes

abbrev pub with_index : Held → List (List ℕ) → Result Held CatalogFault
with_index h attributes =
    if has_index h.info.indexes attributes then Ok h
    else (if nat_lt (length h.info.indexes) 16
    then Ok (record h { info = record h.info { indexes = h.info.indexes ++ attributes ∷ [] } })
    else Err TooMany)

-- the collection with a number is replaced by what comes of it
abbrev pub replace : {E : Type 0} → List Held → ℕ → Result Held E → Result (List Held) E
replace held number (Ok h) = Ok (slice_set held number h)
replace held number (Err fault) = Err fault

abbrev pub change : {E : Type 0} → List Held → ℕ → (Held → Result Held E) → Option Held
    → Result (List Held) E
change held number f (Some h) = replace held number (f h)
change held number f None = Ok held

-- a repeated index is kept once
abbrev pub add_index : List Held → ℕ → List (List ℕ) → Result (List Held) CatalogFault
add_index held number attributes = change held number (λ h. with_index h attributes) (slice_get held number)
