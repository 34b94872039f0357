-- What the index of the one collection finds.
use Rattle.std.proofs.Common.{◌≡◌, ◌∙◌, ◌+◌, ◌<◌, ◌≤◌, ℕ, zero, suc, List, [], ◌∷◌, map, length, get_or, refl, sym, ap, subst, arith}
use Rattle.std.specs.Prelude.{slice_get, option_map, Option, Some, None, unwrap_or, filter, flat_map}
use Rattle.std.specs.List.{All, AllByRecursion}
use Rattle.std.proofs.lemmas.List.{length-map}
use Rattle.std.proofs.lemmas.List.Elements.{All-from_recursion}
use Rattle.std.proofs.lemmas.List.Sorted.{All-permutation, length_permutation}
use Rattle.std.proofs.lemmas.Option.{slice_get-get_or, slice_get-map, slice_get_within, get_or_from_slice_get}
use Rattle.aql_value.specs.Datum.{Datum, null}
use Rattle.aql_meaning.specs.Documents.{Last, in_bounds}
use Rattle.aql_plan.specs.Facts.{attributes_in}
use Rattle.aql_plan.specs.Runs.{Outside}
use Rattle.aql_plan.specs.declared.facts.IndexFact.{IndexFact}
use Rattle.aql_index.specs.declared.bounds.Span.{Span}
use Rattle.aql_index.specs.declared.entries.Entry.{Entry}
use Rattle.aql_index.specs.Entries.{entries_from, entries_of, entries_within, document_of, is_before}
use Rattle.aql_index.specs.Found.{in_order_of}
use Rattle.aql_index.specs.IndexOrder.{index_entries, in_index_order}
use Rattle.aql_index.specs.Spans.{spanned}
use Rattle.aql_index.specs.Usable.{IsIndexFor}
use Rattle.aql_index.specs.laws.InOrder.{documents_are_in_order, span_is_of_documents, spans_are_of_documents, sort_permutes}
use Rattle.test_executors.specs.Worlds.{facts_of, one_collection}

-- the collection has one index alone
pub only_index : (names : List (List ℕ)) (documents : List Datum) (coll index : ℕ) (shard : Option ℕ)
    (P : IndexFact → Type 0) → IsIndexFor (facts_of names documents) coll shard index P
    → (coll ≡ 0) × (index ≡ 0) × (shard ≡ None)
only_index names documents zero zero None P h = (refl, refl, refl)
only_index names documents zero zero (Some shard) P h = absurd (let n = h.0.1 in omega (arith, n))
only_index names documents zero (suc index) shard P h = absurd h.1
only_index names documents (suc coll) index shard P h = absurd h.1

module _ (names : List (List ℕ)) (documents : List Datum) (coll index : ℕ) (shard : Option ℕ)
    (P : IndexFact → Type 0) (h : IsIndexFor (facts_of names documents) coll shard index P) where
  -- its order, and its attributes
  pub order_is : in_order_of (one_collection names documents) Outside coll shard index
      ≡ in_index_order names documents
  order_is =
      let e = only_index names documents coll index shard P h in
      ap (λ n. in_order_of (one_collection names documents) Outside n shard index) e.0
      ∙ ap (λ n. in_order_of (one_collection names documents) Outside 0 shard n) e.1
      ∙ ap (λ s. in_order_of (one_collection names documents) Outside 0 s 0) e.2

  names_are : attributes_in (facts_of names documents) coll index ≡ names
  names_are =
      let e = only_index names documents coll index shard P h in
      ap (λ n. attributes_in (facts_of names documents) n index) e.0
      ∙ ap (attributes_in (facts_of names documents) 0) e.1

  found_is : (equal : List Datum) (last : Last Datum)
      → filter (in_bounds names equal last) (in_index_order names documents)
      ≡ filter (in_bounds (attributes_in (facts_of names documents) coll index) equal last)
      (in_order_of (one_collection names documents) Outside coll shard index)
  found_is equal last =
      sym (ap (λ ns. filter (in_bounds ns equal last)
      (in_order_of (one_collection names documents) Outside coll shard index)) names_are
      ∙ ap (filter (in_bounds names equal last)) order_is)

  pub span_found : (equal : List Datum) (last : Last Datum) (span : Span) (entries : List Entry)
      → entries ≡ index_entries names documents
      → spanned entries span ≡ entries_within equal last entries
      → spanned (in_order_of (one_collection names documents) Outside coll shard index) span
      ≡ filter (in_bounds (attributes_in (facts_of names documents) coll index) equal last)
      (in_order_of (one_collection names documents) Outside coll shard index)
  span_found equal last span entries e f =
      ap (λ ds. spanned ds span) order_is
      ∙ span_is_of_documents names documents equal last span
      (subst (λ es. spanned es span ≡ entries_within equal last es) e f)
      ∙ found_is equal last

  pub spans_found : (equal : List Datum) (last : Last Datum) (spans : List Span) (entries : List Entry)
      → entries ≡ index_entries names documents
      → flat_map (spanned entries) spans ≡ entries_within equal last entries
      → flat_map (spanned (in_order_of (one_collection names documents) Outside coll shard index)) spans
      ≡ filter (in_bounds (attributes_in (facts_of names documents) coll index) equal last)
      (in_order_of (one_collection names documents) Outside coll shard index)
  spans_found equal last spans entries e f =
      ap (λ ds. flat_map (spanned ds) spans) order_is
      ∙ spans_are_of_documents names documents equal last spans
      (subst (λ es. flat_map (spanned es) spans ≡ entries_within equal last es) e f)
      ∙ found_is equal last

  -- as long as the collection
  pub order_length : length (in_order_of (one_collection names documents) Outside coll shard index)
      ≡ length documents
  order_length = ap length order_is
      ∙ length_permutation documents (in_index_order names documents) (documents_are_in_order names documents).0

-- ---- the documents of entries

within_from : (names : List (List ℕ)) (place end : ℕ) (ds : List Datum) → place + length ds ≤ end
    → AllByRecursion (λ (e : Entry). e.place < end) (entries_from place names ds)
within_from names place end [] l = tt
within_from names place end (d ∷ ds) l =
    (omega (arith, l), within_from names (place + 1) end ds (omega (arith, l)))

each_within : (names : List (List ℕ)) (documents : List Datum)
    → All (λ (e : Entry). e.place < length documents) (index_entries names documents)
each_within names documents = All-permutation (λ (e : Entry). e.place < length documents)
    (entries_of names documents) (index_entries names documents) (sort_permutes is_before (entries_of names documents))
    (All-from_recursion (λ (e : Entry). e.place < length documents) (entries_of names documents)
    (within_from names 0 (length documents) documents (omega arith)))

-- there is one at each place
pub entry_there : (names : List (List ℕ)) (documents : List Datum) (k : ℕ)
    → None ≡ option_map (λ (e : Entry). e.place) (slice_get (index_entries names documents) k)
    → k < length documents → ⊥
entry_there names documents k h l =
    let missing : Entry = record { keys = []; place = 0 } in
    let n = length-map (index_entries names documents) (document_of documents) in
    let m = length_permutation documents (in_index_order names documents)
    (documents_are_in_order names documents).0 in
    let found = slice_get-get_or (index_entries names documents) k missing (omega (arith, n, m, l)) in
    let f = h ∙ ap (option_map (λ (e : Entry). e.place)) found in
    cc f

-- the entry at a place of the index names a document, which stands there in its order
pub entry_names : (names : List (List ℕ)) (documents : List Datum) (k at : ℕ)
    → Some at ≡ option_map (λ (e : Entry). e.place) (slice_get (index_entries names documents) k)
    → (at < length documents)
    × (slice_get (in_index_order names documents) k ≡ Some (get_or documents at null))
entry_names names documents k at h = by (slice_get entries k) refl h
  where
    entries : List Entry
    entries = index_entries names documents

    by : (o : Option Entry) → slice_get entries k ≡ o → Some at ≡ option_map (λ (e : Entry). e.place) o
        → (at < length documents)
        × (slice_get (in_index_order names documents) k ≡ Some (get_or documents at null))
    by None e f = absurd (cc)
    by (Some e) g f =
        let is : at ≡ e.place = cc in
        let found : get_or entries k e ≡ e = get_or_from_slice_get entries k e e g in
        let l : e.place < length documents = subst (λ (z : Entry). z.place < length documents) found
        (each_within names documents k e (slice_get_within entries k e g)) in (
          omega (arith, is, l),
          slice_get-map (document_of documents) entries k
              ∙ ap (option_map (document_of documents)) g
              ∙ ap (λ o. Some (unwrap_or o null)) (slice_get-get_or documents e.place null l)
              ∙ sym (ap (λ n. Some (get_or documents n null)) is),
        )
