-- The order of an index (Indexing): by the values of its attributes, and documents that are equal in all of
-- them as they stand in the collection. So a collection has one order by an index, and not several.
use Rattle.std.specs.Prelude.{ℕ, List, [], ◌∷◌, Bool, cond, length}
use Rattle.aql_value.specs.Datum.{Datum}
use Rattle.aql_index.specs.declared.entries.Entry.{Entry}
use Rattle.aql_index.specs.Entries.{IndexView, entries_of, is_before, documents_by}

-- x among ys, in front of the first that is not before it
abbrev pub insert : {X : Type 0} → (X → X → Bool) → X → List X → List X
insert before x [] = x ∷ []
insert before x (y ∷ ys) = cond (before y x) (y ∷ insert before x ys) (x ∷ y ∷ ys)

abbrev pub sort : {X : Type 0} → (X → X → Bool) → List X → List X
sort before [] = []
sort before (x ∷ xs) = insert before x (sort before xs)

-- the entries of these documents in the order of the index
abbrev pub index_entries : List (List ℕ) → List Datum → List Entry
index_entries names documents = sort is_before (entries_of names documents)

-- the documents in the order of the index
abbrev pub in_index_order : List (List ℕ) → List Datum → List Datum
in_index_order names documents = documents_by documents (index_entries names documents)

-- the index of these documents by these attributes
abbrev pub index_of : List (List ℕ) → List Datum → IndexView
index_of names documents = record { width = length names; entries = index_entries names documents }
