-- What those who read the documents of a collection make of rows (the high-level operation FOR; Indexing):
-- the bounds of an index and its order, a filter that the reader has of its own, and a projection, which is
-- the attributes that are kept of a document.
use Rattle.std.specs.Prelude.{ℕ, ◌≡◌, List, [], ◌∷◌, map, filter, Bool, true, false, cond, not, ◌&&◌, Option, Some, None, option_map, bytes_eq, IsPermutation, IsSortedBy}
use Rattle.std.specs.List.{list_any, AllZip}
use Rattle.std.specs.Ordering.{is_lt}
use Rattle.aql_value.specs.Datum.{Datum}
use Rattle.aql_value.specs.Contents.{record_of, elements, attributes, at_name, same, is_below, is_in}
use Rattle.aql_tree.specs.declared.syntax.Ident.{Ident}
use Rattle.aql_meaning.specs.Row.{Row, bind}
use Rattle.aql_meaning.specs.Clauses.{keys_cmp, with_each}

-- ---- the bounds of an index

-- one end of a range; E is a type of expressions, or that of their values at a row
pub record End (E : Type 0) : Type 0 where
  pub limit : E
  pub inclusive : Bool

-- the last bound: none, one of the elements of an array, or a range between a low and a high end
pub data Last (E : Type 0) : Type 0 where
  no_last : Last E
  one_of : E → Last E
  between : Option (End E) → Option (End E) → Last E

abbrev pub end_map : {E F : Type 0} → (E → F) → End E → End F
end_map f end = record { limit = f end.limit; inclusive = end.inclusive }

abbrev pub last_map : {E F : Type 0} → (E → F) → Last E → Last F
last_map f no_last = no_last
last_map f (one_of e) = one_of (f e)
last_map f (between low high) = between (option_map (end_map f) low) (option_map (end_map f) high)

-- whether a value is not too low for a range, and not too high
abbrev pub is_above : Option (End Datum) → Datum → Bool
is_above None v = true
is_above (Some low) v = cond low.inclusive (not (is_below v low.limit)) (is_below low.limit v)

abbrev pub is_beneath : Option (End Datum) → Datum → Bool
is_beneath None v = true
is_beneath (Some high) v = cond high.inclusive (not (is_below high.limit v)) (is_below v high.limit)

abbrev pub in_last : Last Datum → Datum → Bool
in_last no_last v = true
in_last (one_of list) v = is_in (elements list) v
in_last (between low high) v = is_above low v && is_beneath high v

-- the first attributes of the document have the values `equal`, and the next one is in the last bound. An
-- attribute that the document lacks counts as null
abbrev pub in_bounds : List (List ℕ) → List Datum → Last Datum → Datum → Bool
in_bounds names [] no_last document = true
in_bounds [] equal last document = false
in_bounds (name ∷ names) [] last document = in_last last (at_name document name)
in_bounds (name ∷ names) (v ∷ equal) last document =
    same (at_name document name) v && in_bounds names equal last document

-- ---- the order of an index

-- the values of the index's attributes
abbrev pub index_keys : List (List ℕ) → Datum → List Datum
index_keys names document = map (at_name document) names

-- a permutation of the documents in which they ascend by these attributes, or descend
abbrev pub InIndexOrder : List (List ℕ) → Bool → List Datum → List Datum → Type 0
InIndexOrder names descending documents sorted = IsPermutation documents sorted
    × IsSortedBy (λ a b. is_lt (keys_cmp (map (λ name. descending) names)
    (index_keys names a) (index_keys names b))) sorted

-- ---- rows with documents

-- the document with these attributes alone, or all of it
abbrev pub projection : Option (List (List ℕ)) → Datum → Datum
projection None document = document
projection (Some names) document =
    record_of (filter (λ (attribute : List ℕ × Datum). list_any (bytes_eq attribute.0) names)
    (attributes document))

-- of these documents those with which the row passes, each cut after the test
abbrev pub documents_kept : Ident → (Row → Bool) → Option (List (List ℕ)) → Row → List Datum → List Datum
documents_kept x passes attrs row documents =
    map (projection attrs) (filter (λ document. passes (bind x row document)) documents)

-- any permutation of each row with each of its documents that are kept
abbrev pub Scanned : Ident → (Row → Bool) → Option (List (List ℕ)) → (Row → List Datum)
    → List Row → List Row → Type 0
Scanned x passes attrs documents rows out = IsPermutation
    (with_each (bind x) rows (map (λ row. documents_kept x passes attrs row (documents row)) rows)) out

-- row after row each with its documents that are kept, in the order of an index
abbrev pub ScannedInOrder : List (List ℕ) → Bool → Ident → (Row → Bool) → Option (List (List ℕ))
    → (Row → List Datum) → List Row → List Row → Type 0
ScannedInOrder names descending x passes attrs documents rows out = (lists : List (List Datum))
    × AllZip (λ row list. (sorted : List Datum) × InIndexOrder names descending (documents row) sorted
    × (list ≡ documents_kept x passes attrs row sorted)) rows lists
    × (out ≡ with_each (bind x) rows lists)
