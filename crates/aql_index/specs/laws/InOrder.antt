-- The documents of an index stand in index order; a span of exactly the entries within some bounds is one of
-- exactly the documents in them, and so are several spans.
use Rattle.std.proofs.Common.{◌≡◌, ◌∙◌, ◌-◌, ℕ, List, [], ◌∷◌, ◌++◌, map, take, drop, Bool, true, false, cond, refl, sym, ap, ap₂, arith}
use Rattle.std.specs.Prelude.{filter, flat_map, IsPermutation}
use Rattle.std.proofs.lemmas.List.{take-map, drop-map, map-append}
use Rattle.std.proofs.lemmas.List.Sorted.{IsPermutation-refl, IsPermutation-trans, IsPermutation-cons, IsPermutation-swap}
use Rattle.aql_value.specs.Datum.{Datum}
use Rattle.aql_meaning.specs.Documents.{Last, in_bounds}
use Rattle.aql_index.specs.declared.entries.Entry.{Entry}
use Rattle.aql_index.specs.declared.bounds.Span.{Span}
use Rattle.aql_index.specs.Entries.{entries_of, document_of, documents_by, is_before, entries_within}
use Rattle.aql_index.specs.IndexOrder.{insert, sort, index_entries, in_index_order}
use Rattle.aql_index.specs.Spans.{spanned}
use Rattle.aql_index.specs.Theorems.{DocumentsAreInOrder, SpanIsOfDocuments, SpansAreOfDocuments}
use Rattle.aql_index.specs.laws.Documents.{all_stand, each_is, bounded, in_order}
use Rattle.aql_index.specs.laws.Order.{entries_order}
use Rattle.aql_index.specs.laws.Stable.{sort_sorted}

-- ---- the order is a permutation

swap_front : {X : Type 0} (x y : X) (ys : List X) → IsPermutation (x ∷ y ∷ ys) (y ∷ x ∷ ys)
swap_front x y ys = IsPermutation-swap (x ∷ y ∷ ys) (y ∷ x ∷ ys) 0 1 (omega arith) (omega arith) refl

insert_permutes : {X : Type 0} (lt : X → X → Bool) (x : X) (xs : List X)
    → IsPermutation (x ∷ xs) (insert lt x xs)
insert_permutes lt x [] = IsPermutation-refl (x ∷ [])
insert_permutes lt x (y ∷ ys) = by (lt y x) (insert_permutes lt x ys)
  where
    by : (b : Bool) → IsPermutation (x ∷ ys) (insert lt x ys)
        → IsPermutation (x ∷ y ∷ ys) (cond b (y ∷ insert lt x ys) (x ∷ y ∷ ys))
    by true ih = IsPermutation-trans _ _ _ (swap_front x y ys) (IsPermutation-cons y _ _ ih)
    by false ih = IsPermutation-refl (x ∷ y ∷ ys)

pub sort_permutes : {X : Type 0} (lt : X → X → Bool) (xs : List X) → IsPermutation xs (sort lt xs)
sort_permutes lt [] = IsPermutation-refl []
sort_permutes lt (x ∷ xs) = IsPermutation-trans _ _ _
    (IsPermutation-cons x _ _ (sort_permutes lt xs)) (insert_permutes lt x (sort lt xs))

-- ---- spans

spanned-map : {X Y : Type 0} (f : X → Y) (xs : List X) (s : Span)
    → spanned (map f xs) s ≡ map f (spanned xs s)
spanned-map f xs s =
    ap (take (s.to - s.from)) (drop-map f s.from xs) ∙ take-map f (s.to - s.from) (drop s.from xs)

flat-spanned : {X Y : Type 0} (f : X → Y) (xs : List X) (spans : List Span)
    → flat_map (spanned (map f xs)) spans ≡ map f (flat_map (spanned xs) spans)
flat-spanned f xs [] = refl
flat-spanned f xs (s ∷ spans) =
    ap₂ (λ ys zs. ys ++ zs) (spanned-map f xs s) (flat-spanned f xs spans)
    ∙ sym (map-append f (spanned xs s) (flat_map (spanned xs) spans))

module _ (names : List (List ℕ)) (documents : List Datum) where
  moved : IsPermutation (entries_of names documents) (index_entries names documents)
  moved = sort_permutes is_before (entries_of names documents)

  kept : (equal : List Datum) (last : Last Datum) (es : List Entry)
      → es ≡ entries_within equal last (index_entries names documents)
      → documents_by documents es ≡ filter (in_bounds names equal last) (in_index_order names documents)
  kept equal last es h = ap (documents_by documents) h
      ∙ sym (bounded names documents (index_entries names documents) equal last
      (each_is names documents (index_entries names documents) moved))

pub documents_are_in_order : DocumentsAreInOrder
documents_are_in_order names documents = in_order names documents (index_entries names documents)
    (each_is names documents (index_entries names documents) (moved names documents))
    (all_stand names documents (index_entries names documents) (moved names documents))
    (sort_sorted is_before entries_order (entries_of names documents))

pub span_is_of_documents : SpanIsOfDocuments
span_is_of_documents names documents equal last span h =
    spanned-map (document_of documents) (index_entries names documents) span
    ∙ kept names documents equal last _ h

pub spans_are_of_documents : SpansAreOfDocuments
spans_are_of_documents names documents equal last spans h =
    flat-spanned (document_of documents) (index_entries names documents) spans
    ∙ kept names documents equal last _ h
