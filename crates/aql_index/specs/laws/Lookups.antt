-- A lookup by one value finds documents in the order of the collection: in the order of an index over one
-- attribute, documents that are equal in it keep their places.
use Rattle.std.proofs.Common.{◌≡◌, ◌∙◌, ℕ, List, [], ◌∷◌, Bool, true, not, ◌&&◌, refl, sym, ap, subst}
use Rattle.std.specs.Prelude.{filter}
use Rattle.std.specs.declared.cmp.Ordering.{Ordering}
use Rattle.std.specs.declared.cmp.Ordering.TheVariants.{Less, Equal, Greater}
use Rattle.std.specs.Ordering.{is_eq, is_lt, ordering_reverse, ordering_then}
use Rattle.std.specs.List.{All}
use Rattle.std.specs.List.Sorted.{ties}
use Rattle.std.proofs.Math.Bool.{and-true}
use Rattle.std.proofs.lemmas.List.Elements.{filter_agree, All-from_recursion, recursion_from_All}
use Rattle.aql_value.specs.Datum.{Datum}
use Rattle.aql_value.specs.Compare.{compare}
use Rattle.aql_value.specs.Contents.{list, at_name, same, is_below}
use Rattle.aql_value.specs.laws.Alls.{all_more}
use Rattle.aql_value.specs.laws.Strict.{compare_total}
use Rattle.aql_meaning.specs.Documents.{no_last, in_bounds}
use Rattle.aql_index.specs.declared.entries.Entry.{Entry}
use Rattle.aql_index.specs.Bounds.{keys_within}
use Rattle.aql_index.specs.Entries.{entries_of, document_of, documents_by, is_before, entries_within}
use Rattle.aql_index.specs.IndexOrder.{index_entries, in_index_order}
use Rattle.aql_index.specs.laws.Documents.{IsOf, all_there, each_of, each_is, bounded}
use Rattle.aql_index.specs.laws.Filters.{filter_on}
use Rattle.aql_index.specs.laws.InOrder.{sort_permutes}
use Rattle.aql_index.specs.laws.Order.{entries_order}
use Rattle.aql_index.specs.laws.Stable.{sort_stable}

-- ---- an entry with one value has another where it ties with that

abbrev probe : Datum → Entry
probe v = record { keys = v ∷ []; place = 0 }

abbrev ties_with : Datum → List Datum → Bool
ties_with v keys = not (is_below (list (v ∷ [])) (list keys)) && not (is_below (list keys) (list (v ∷ [])))

tied : (o : Ordering)
    → not (is_lt (ordering_then (ordering_reverse o) Equal)) && not (is_lt (ordering_then o Equal))
    ≡ is_eq o && true
tied Less = refl
tied Equal = refl
tied Greater = refl

one_value : (v k : Datum) → ties_with v (k ∷ []) ≡ keys_within (v ∷ []) no_last (k ∷ [])
one_value v k = subst (λ o. not (is_lt (ordering_then o Equal)) && not (is_lt (ordering_then (compare k v) Equal))
    ≡ is_eq (compare k v) && true) (sym (compare_total.antisymm v k)) (tied (compare k v))

-- ---- what is found

module _ (name : List ℕ) (v : Datum) (documents : List Datum) where
  abbrev names : List (List ℕ)
  names = name ∷ []

  each : (e : Entry) → IsOf names documents e
      → ties is_before (probe v) e ≡ keys_within (v ∷ []) no_last e.keys
  each e of = subst (λ keys. ties_with v keys ≡ keys_within (v ∷ []) no_last keys) (sym of)
      (one_value v (at_name (document_of documents e) name))

  those_tied : (es : List Entry) → All (IsOf names documents) es
      → filter (ties is_before (probe v)) es ≡ entries_within (v ∷ []) no_last es
  those_tied es of = filter_on (ties is_before (probe v)) (λ (e : Entry). keys_within (v ∷ []) no_last e.keys) es
      (all_more (IsOf names documents) (λ e. ties is_before (probe v) e ≡ keys_within (v ∷ []) no_last e.keys)
      each es (recursion_from_All (IsOf names documents) es of))

  unsorted : All (IsOf names documents) (entries_of names documents)
  unsorted = All-from_recursion (IsOf names documents) (entries_of names documents) (each_of names documents)

  sorted : All (IsOf names documents) (index_entries names documents)
  sorted = each_is names documents (index_entries names documents)
      (sort_permutes is_before (entries_of names documents))

  pub found_in_place : filter (in_bounds names (v ∷ []) no_last) (in_index_order names documents)
      ≡ filter (λ d. same (at_name d name) v) documents
  found_in_place =
      bounded names documents (index_entries names documents) (v ∷ []) no_last sorted
      ∙ ap (documents_by documents) (sym (those_tied (index_entries names documents) sorted)
      ∙ sort_stable is_before entries_order (entries_of names documents) (probe v)
      ∙ those_tied (entries_of names documents) unsorted)
      ∙ sym (bounded names documents (entries_of names documents) (v ∷ []) no_last unsorted)
      ∙ ap (filter (in_bounds names (v ∷ []) no_last)) (all_there names documents)
      ∙ filter_agree _ _ (λ d. and-true (same (at_name d name) v)) documents
