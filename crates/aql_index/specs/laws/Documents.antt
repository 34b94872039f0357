-- The documents that the entries of an index stand for: those that it was built of, in the order of the
-- index; and those of the entries within some bounds are those in these bounds.
use Rattle.std.proofs.Common.{◌≡◌, ◌∙◌, ◌+◌, ◌<◌, ℕ, List, [], ◌∷◌, ◌++◌, length, map, get_or, false, ◌&&◌, Some, refl, sym, ap, ap₂, subst, arith, append_assoc, length-append}
use Rattle.std.specs.Prelude.{unwrap_or, slice_get, filter}
use Rattle.std.specs.Ordering.{ordering_then, is_lt}
use Rattle.std.specs.List.{All, AllByRecursion}
use Rattle.std.specs.List.Sorted.{IsPermutation, IsSortedBy}
use Rattle.std.proofs.lemmas.List.{get_or-map, length-map}
use Rattle.std.proofs.lemmas.List.Elements.{All-from_recursion, recursion_from_All}
use Rattle.std.proofs.lemmas.List.Sorted.{IsPermutation-map, All-permutation}
use Rattle.aql_value.specs.Datum.{Datum, null}
use Rattle.aql_value.specs.Compare.{compare}
use Rattle.aql_value.specs.Contents.{list, at_name, same}
use Rattle.aql_meaning.specs.Clauses.{keys_cmp}
use Rattle.aql_meaning.specs.Documents.{index_keys, Last, no_last, one_of, between, in_bounds, InIndexOrder}
use Rattle.aql_index.specs.Bounds.{keys_within}
use Rattle.aql_index.specs.Entries.{entries_from, entries_of, document_at, document_of, documents_by, is_before, entries_within}
use Rattle.aql_index.specs.declared.entries.Entry.{Entry}
use Rattle.aql_index.specs.laws.Filters.{filter_map, filter_on}

-- ---- each entry stands for its document

at_seam : {X : Type 0} (front : List X) (x : X) (rest : List X)
    → slice_get (front ++ x ∷ rest) (length front) ≡ Some x
at_seam [] x rest = refl
at_seam (y ∷ front) x rest = at_seam front x rest

pub stands_at : (documents front : List Datum) (d : Datum) (ds : List Datum) (place : ℕ)
    → place ≡ length front → documents ≡ front ++ d ∷ ds → document_at documents place ≡ d
stands_at documents front d ds place p e =
    ap (λ xs. document_at xs place) e
    ∙ ap (document_at (front ++ d ∷ ds)) p
    ∙ ap (λ o. unwrap_or o null) (at_seam front d ds)

module _ (names : List (List ℕ)) (documents : List Datum) where
  seen_from : (front ds : List Datum) (place : ℕ) → place ≡ length front → documents ≡ front ++ ds
      → documents_by documents (entries_from place names ds) ≡ ds
  seen_from front [] place p e = refl
  seen_from front (d ∷ ds) place p e =
      ap₂ (λ x xs. x ∷ xs) (stands_at documents front d ds place p e)
      (seen_from (front ++ d ∷ []) ds (place + 1) (omega (arith, p, length-append front (d ∷ [])))
      (e ∙ sym (append_assoc front (d ∷ []) ds)))

  pub all_there : documents_by documents (entries_of names documents) ≡ documents
  all_there = seen_from [] documents 0 refl refl

  -- an entry has the values of its document
  abbrev pub IsOf : Entry → Type 0
  IsOf e = e.keys ≡ index_keys names (document_of documents e)

  keyed_from : (front ds : List Datum) (place : ℕ) → place ≡ length front → documents ≡ front ++ ds
      → AllByRecursion IsOf (entries_from place names ds)
  keyed_from front [] place p e = tt
  keyed_from front (d ∷ ds) place p e = (
    ap (index_keys names) (sym (stands_at documents front d ds place p e)),
    keyed_from (front ++ d ∷ []) ds (place + 1) (omega (arith, p, length-append front (d ∷ [])))
        (e ∙ sym (append_assoc front (d ∷ []) ds)),
  )

  pub each_of : AllByRecursion IsOf (entries_of names documents)
  each_of = keyed_from [] documents 0 refl refl

  module _ (entries : List Entry) (moved : IsPermutation (entries_of names documents) entries) where
    -- the documents of the entries are a permutation of all
    pub all_stand : IsPermutation documents (documents_by documents entries)
    all_stand = subst (λ xs. IsPermutation xs (documents_by documents entries)) all_there
        (IsPermutation-map (document_of documents) _ _ moved)

    pub each_is : All IsOf entries
    each_is = All-permutation IsOf _ _ moved (All-from_recursion _ _ each_of)

-- ---- bounds

-- a document is in some bounds where the values of the index's attributes are
pub document_within : (names : List (List ℕ)) (equal : List Datum) (last : Last Datum) (d : Datum)
    → keys_within equal last (index_keys names d) ≡ in_bounds names equal last d
document_within [] [] no_last d = refl
document_within [] [] (one_of e) d = refl
document_within [] [] (between low high) d = refl
document_within (name ∷ names) [] no_last d = refl
document_within (name ∷ names) [] (one_of e) d = refl
document_within (name ∷ names) [] (between low high) d = refl
document_within [] (v ∷ equal) last d = refl
document_within (name ∷ names) (v ∷ equal) last d =
    ap (λ b. same (at_name d name) v && b) (document_within names equal last d)

-- the documents in some bounds are those of the entries within them, in the order of the index
pub bounded : (names : List (List ℕ)) (documents : List Datum) (entries : List Entry)
    (equal : List Datum) (last : Last Datum) → All (IsOf names documents) entries
    → filter (in_bounds names equal last) (documents_by documents entries)
    ≡ documents_by documents (entries_within equal last entries)
bounded names documents entries equal last of =
    filter_map (document_of documents) (in_bounds names equal last) entries
    ∙ ap (documents_by documents) (filter_on (λ e. in_bounds names equal last (document_of documents e))
    (λ (e : Entry). keys_within equal last e.keys) entries
    (recursion_from_All _ _ (λ k d l.
    sym (document_within names equal last (document_of documents (get_or entries k d)))
    ∙ ap (keys_within equal last) (sym (of k d l)))))

-- ---- the order of the index

-- the values compare as lists of values do
same_order : (names : List (List ℕ)) (a b : Datum)
    → keys_cmp (map (λ name. false) names) (index_keys names a) (index_keys names b)
    ≡ compare (list (index_keys names a)) (list (index_keys names b))
same_order [] a b = refl
same_order (name ∷ names) a b =
    ap (ordering_then (compare (at_name a name) (at_name b name))) (same_order names a b)

-- the documents of sorted entries are in index order
pub in_order : (names : List (List ℕ)) (documents : List Datum) (entries : List Entry)
    → All (IsOf names documents) entries → IsPermutation documents (documents_by documents entries)
    → IsSortedBy is_before entries → InIndexOrder names false documents (documents_by documents entries)
in_order names documents entries of moved up = (moved, λ k d low high. by k d high)
  where
    none : Entry
    none = record { keys = []; place = 0 }

    by : (k : ℕ) (d : Datum) → k + 1 < length (documents_by documents entries)
        → is_lt (keys_cmp (map (λ name. false) names)
        (index_keys names (get_or (documents_by documents entries) (k + 1) d))
        (index_keys names (get_or (documents_by documents entries) k d))) ≡ false
    by k d h =
        let inside : k + 1 < length entries = omega (arith, h, length-map entries (document_of documents)) in
        let before : k < length entries = omega (arith, inside) in
        let next = ap (index_keys names) (get_or-map (document_of documents) entries (k + 1) none d inside)
        ∙ sym (of (k + 1) none inside) in
        let this = ap (index_keys names) (get_or-map (document_of documents) entries k none d before)
        ∙ sym (of k none before) in
        ap is_lt (same_order names (get_or (documents_by documents entries) (k + 1) d)
        (get_or (documents_by documents entries) k d)
        ∙ ap₂ (λ (a b : List Datum). compare (list a) (list b)) next this)
        ∙ up k none (omega arith) inside
