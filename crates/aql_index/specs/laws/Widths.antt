-- The largest group of entries with the same first values is the largest group of documents that are equal in
-- the first attributes.
use Rattle.std.proofs.Common.{◌≡◌, ◌∙◌, ℕ, List, [], ◌∷◌, map, take, length, Bool, true, false, cond, max, refl, sym, ap, ap₂, arith}
use Rattle.std.specs.Prelude.{filter, fold}
use Rattle.std.specs.List.{AllByRecursion}
use Rattle.std.proofs.lemmas.List.{take-map, length-map}
use Rattle.std.proofs.lemmas.List.Sorted.{length_permutation}
use Rattle.aql_value.specs.Datum.{Datum}
use Rattle.aql_value.specs.Contents.{list, at_name, same}
use Rattle.aql_value.specs.laws.Alls.{all_more}
use Rattle.aql_meaning.specs.Documents.{index_keys}
use Rattle.aql_meaning.specs.laws.Agrees.{map_same}
use Rattle.aql_plan.specs.Facts as facts
use Rattle.aql_index.specs.declared.entries.Entry.{Entry}
use Rattle.aql_index.specs.Entries.{entries_of, document_of, is_before}
use Rattle.aql_index.specs.Groups.{alike}
use Rattle.aql_index.specs.IndexOrder.{insert, sort, index_entries}
use Rattle.aql_index.specs.Theorems.{WidestIsOfDocuments}
use Rattle.aql_index.specs.laws.Documents.{all_there, each_of, IsOf}
use Rattle.aql_index.specs.laws.Filters.{filter_map, filter_on}
use Rattle.aql_index.specs.laws.Passing.{filter_sort}

-- ---- a maximum does not look at the order

max_insert : {X : Type 0} (lt : X → X → Bool) (f : X → ℕ) (x : X) (xs : List X) (a : ℕ)
    → fold max a (map f (insert lt x xs)) ≡ fold max (max a (f x)) (map f xs)
max_insert lt f x [] a = refl
max_insert lt f x (y ∷ ys) a = by (lt y x) (max_insert lt f x ys (max a (f y)))
  where
    by : (b : Bool) → fold max (max a (f y)) (map f (insert lt x ys))
        ≡ fold max (max (max a (f y)) (f x)) (map f ys)
        → fold max a (map f (cond b (y ∷ insert lt x ys) (x ∷ y ∷ ys)))
        ≡ fold max (max (max a (f x)) (f y)) (map f ys)
    by true h = h ∙ ap (λ n. fold max n (map f ys)) (omega arith)
    by false h = refl

max_sort : {X : Type 0} (lt : X → X → Bool) (f : X → ℕ) (xs : List X) (a : ℕ)
    → fold max a (map f (sort lt xs)) ≡ fold max a (map f xs)
max_sort lt f [] a = refl
max_sort lt f (x ∷ xs) a = max_insert lt f x (sort lt xs) a ∙ max_sort lt f xs (max a (f x))

map_on : {X Y : Type 0} (f g : X → Y) (xs : List X) → AllByRecursion (λ x. f x ≡ g x) xs → map f xs ≡ map g xs
map_on f g [] h = refl
map_on f g (x ∷ xs) h = ap₂ (λ y ys. y ∷ ys) h.0 (map_on f g xs h.1)

map_map : {X Y Z : Type 0} (g : Y → Z) (f : X → Y) (xs : List X) → map g (map f xs) ≡ map (λ x. g (f x)) xs
map_map g f [] = refl
map_map g f (x ∷ xs) = ap (λ ys. g (f x) ∷ ys) (map_map g f xs)

module _ (names : List (List ℕ)) (documents : List Datum) (width : ℕ) where
  -- the first values of an entry
  firsts : (e : Entry) → IsOf names documents e
      → take width e.keys ≡ index_keys (take width names) (document_of documents e)
  firsts e h = ap (take width) h ∙ take-map (at_name (document_of documents e)) width names

  -- the documents of the group of a document, and how many there are
  abbrev tests : Datum → Datum → Bool
  tests d e = same (list (index_keys (take width names) d)) (list (index_keys (take width names) e))

  abbrev size : Datum → ℕ
  size d = length (facts.alike (take width names) documents d)

  group_is : (e : Entry) → IsOf names documents e
      → length (alike width (entries_of names documents) e) ≡ size (document_of documents e)
  group_is e h =
      let d = document_of documents e in
      let es = entries_of names documents in
      ap length (filter_on (λ (f : Entry). same (list (take width e.keys)) (list (take width f.keys)))
      (λ f. tests d (document_of documents f)) es
      (all_more (IsOf names documents) _ (λ (f : Entry) k.
      ap₂ (λ (a b : List Datum). same (list a) (list b)) (firsts e h) (firsts f k))
      es (each_of names documents)))
      ∙ sym (length-map (filter (λ f. tests d (document_of documents f)) es) (document_of documents))
      ∙ ap length (sym (filter_map (document_of documents) (tests d) es))
      ∙ ap (λ ds. length (filter (tests d) ds)) (all_there names documents)

pub widest_is_of_documents : WidestIsOfDocuments
widest_is_of_documents names documents width =
    let es = entries_of names documents in
    ap (fold max 0) (map_same (λ e. length (alike width (index_entries names documents) e))
    (λ e. length (alike width es e))
    (λ (e : Entry). length_permutation _ _ (filter_sort is_before
    (λ (f : Entry). same (list (take width e.keys)) (list (take width f.keys))) es))
    (index_entries names documents))
    ∙ max_sort is_before (λ e. length (alike width es e)) es 0
    ∙ ap (fold max 0) (map_on (λ e. length (alike width es e))
    (λ e. size names documents width (document_of documents e))
    es (all_more (IsOf names documents) _ (group_is names documents width) es (each_of names documents))
    ∙ sym (map_map (size names documents width) (document_of documents) es)
    ∙ ap (map (size names documents width)) (all_there names documents))
