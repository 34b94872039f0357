-- An index as contracts see it (Indexing): an entry for each document, with the values of the index's
-- attributes and the document's place in the collection. An attribute that the document lacks counts as null.
use Rattle.std.specs.Prelude.{ℕ, ◌≡◌, ◌+◌, ◌^◌, ◌<◌, List, [], ◌∷◌, map, filter, length, Bool, IsSortedBy, slice_get, unwrap_or, refl}
use Rattle.std.specs.List.{All}
use Rattle.std.specs.Coded.{Coded, code_by, coded×, coded_ℕ, coded_list}
use Rattle.aql_value.specs.Datum.{Datum, null, coded_datums}
use Rattle.aql_value.specs.Contents.{list, is_below}
use Rattle.aql_meaning.specs.Documents.{index_keys, Last}
use Rattle.aql_index.specs.Bounds.{keys_within}
use Rattle.aql_index.specs.declared.entries.Entry.{Entry}

-- an index over so many attributes
pub record IndexView : Type 0 where
  pub width : ℕ
  pub entries : List Entry

-- the entry of each document, where the first of these documents has this place
abbrev pub entries_from : ℕ → List (List ℕ) → List Datum → List Entry
entries_from place names [] = []
entries_from place names (d ∷ ds) =
    record { keys = index_keys names d; place = place } ∷ entries_from (place + 1) names ds

abbrev pub entries_of : List (List ℕ) → List Datum → List Entry
entries_of names documents = entries_from 0 names documents

-- the document at a place; null where there is none
abbrev pub document_at : List Datum → ℕ → Datum
document_at documents place = unwrap_or (slice_get documents place) null

-- those at some places, in the order of the places
abbrev pub standing_at : List Datum → List ℕ → List Datum
standing_at documents places = map (document_at documents) places

-- the documents that entries stand for
abbrev pub document_of : List Datum → Entry → Datum
document_of documents e = document_at documents e.place

abbrev pub documents_by : List Datum → List Entry → List Datum
documents_by documents entries = map (document_of documents) entries

-- an entry stands before another: its values are less, where the first that differ decide
abbrev pub is_before : Entry → Entry → Bool
is_before a b = is_below (list a.keys) (list b.keys)

-- the entries whose values are within bounds
abbrev pub entries_within : List Datum → Last Datum → List Entry → List Entry
entries_within equal last entries = filter (λ (e : Entry). keys_within equal last e.keys) entries

-- what each index keeps: no entry is before the one in front of it, each has a value for each attribute, and
-- 32 bits count their places
pub record IsIndex (width : ℕ) (entries : List Entry) : Type 0 where
  pub sorted : IsSortedBy is_before entries
  pub wide : All (λ (e : Entry). length e.keys ≡ width) entries
  pub few : length entries < 2 ^ 32

-- ---- how the logic stores them

abbrev coded_entry : Coded Entry
coded_entry = code_by (List Datum × ℕ) (coded× coded_datums coded_ℕ)
    (λ e. (e.keys, e.place)) (λ p. record { keys = p.0; place = p.1 }) (λ _. refl)

abbrev pub coded_index : Coded IndexView
coded_index = code_by (ℕ × List Entry) (coded× coded_ℕ (coded_list coded_entry))
    (λ s. (s.width, s.entries)) (λ p. record { width = p.0; entries = p.1 }) (λ _. refl)
