-- The entries of documents, before and after they are sorted.
use Rattle.std.proofs.Common.{◌≡◌, ◌∙◌, ◌+◌, ◌<◌, ◌^◌, ℕ, List, [], ◌∷◌, ◌++◌, length, drop, get_or, append_assoc, refl, ap, sym, suc, arith}
use Rattle.std.specs.Prelude.{All, option_map, unwrap_or}
use Rattle.std.specs.List.{AllByRecursion}
use Rattle.std.specs.List.Sorted.{IsPermutation, IsSortedBy}
use Rattle.std.proofs.lemmas.List.{length-map, drop_more}
use Rattle.std.proofs.lemmas.List.Elements.{All-from_recursion}
use Rattle.std.proofs.lemmas.List.Sorted.{All-permutation, length_permutation}
use Rattle.std.proofs.lemmas.Option.{slice_get-map, slice_get_read}
use Rattle.aql_value.specs.Datum.{Datum, null}
use Rattle.aql_value.specs.Contents.{at_name}
use Rattle.aql_value.specs.View.{datum_of, datums_in}
use Rattle.aql_value.specs.declared.values.Value.{Value}
use Rattle.aql_meaning.specs.Documents.{index_keys}
use Rattle.aql_index.specs.declared.entries.Entry.{Entry}
use Rattle.aql_index.specs.Entries.{entries_from, entries_of, document_at, standing_at, is_before, IsIndex}
use Rattle.aql_index.specs.IndexOrder.{index_entries}
use Rattle.aql_index.specs.laws.InOrder.{sort_permutes}
use Rattle.aql_index.specs.laws.Order.{entries_order}
use Rattle.aql_index.specs.laws.Stable.{sort_sorted}

wide_from : (place : ℕ) (names : List (List ℕ)) (ds : List Datum)
    → AllByRecursion (λ (e : Entry). length e.keys ≡ length names) (entries_from place names ds)
wide_from place names [] = tt
wide_from place names (d ∷ ds) = (length-map names (at_name d), wide_from (place + 1) names ds)

count_from : (place : ℕ) (names : List (List ℕ)) (ds : List Datum)
    → length (entries_from place names ds) ≡ length ds
count_from place names [] = refl
count_from place names (d ∷ ds) = ap suc (count_from (place + 1) names ds)

is_index : (names : List (List ℕ)) (ds : List Datum) (entries : List Entry) → length ds < 2 ^ 32
    → IsPermutation (entries_of names ds) entries → IsSortedBy is_before entries
    → IsIndex (length names) entries
is_index names ds entries few moved up = record {
  sorted = up;
  wide = All-permutation (λ (e : Entry). length e.keys ≡ length names) _ _ moved
      (All-from_recursion _ _ (wide_from 0 names ds));
  few = (let n = length_permutation _ _ moved in let m = count_from 0 names ds in omega (arith, n, m, few));
}

pub index_made : (names : List (List ℕ)) (ds : List Datum) → length ds < 2 ^ 32
    → IsIndex (length names) (index_entries names ds)
index_made names ds few = is_index names ds (index_entries names ds) few
    (sort_permutes is_before (entries_of names ds))
    (sort_sorted is_before entries_order (entries_of names ds))

-- ---- one document more, by its place in a list

stands : (vs : List Value) (place : ℕ) (v : Value) → place < length vs → v ≡ get_or vs place v
    → document_at (datums_in vs) place ≡ datum_of v
stands vs place v l e = ap (λ o. unwrap_or o null)
    (slice_get-map datum_of vs place
    ∙ ap (option_map datum_of) (slice_get_read vs (length vs) place v refl l e))

pub one_placed : (names : List (List ℕ)) (vs : List Value) (places : List ℕ) (at : ℕ) (v : Value)
    (keys : List Datum) (front new all : List Entry) → at < length places
    → All (λ place. place < length vs) places → v ≡ get_or vs (get_or places at 0) v
    → keys ≡ index_keys names (datum_of v)
    → front ++ entries_from at names (standing_at (datums_in vs) (drop at places)) ≡ all
    → new ≡ front ++ record { keys = keys; place = at } ∷ []
    → new ++ entries_from (at + 1) names (standing_at (datums_in vs) (drop (at + 1) places)) ≡ all
one_placed names vs places at v keys front new all l within e k h n =
    let rest = entries_from (at + 1) names (standing_at (datums_in vs) (drop (at + 1) places)) in
    let same : document_at (datums_in vs) (get_or places at 0) ≡ datum_of v =
    stands vs (get_or places at 0) v (within at 0 l) e in
    ap (λ es. es ++ rest) (n ∙ ap (λ (ks : List Datum). front ++ record { keys = ks; place = at } ∷ [])
    (k ∙ ap (index_keys names) (sym same)))
    ∙ append_assoc front _ rest
    ∙ sym (ap (λ ps. front ++ entries_from at names (standing_at (datums_in vs) ps))
    (drop_more places at 0 l)) ∙ h
