-- What readers give of one row of each shard's documents in the order of an index, merged by the attributes
-- of the index, is what they may give of all documents in this order.
use Rattle.std.proofs.Common.{◌≡◌, ◌∙◌, ℕ, List, [], ◌∷◌, ◌++◌, map, Bool, true, false, cond, refl, ap, ap₂, sym, subst}
use Rattle.std.specs.Prelude.{filter, flat_map, IsPermutation, IsSortedBy, Option, Some}
use Rattle.std.specs.Cmp.{IsStrictWeakOrder}
use Rattle.std.specs.List.{AllByRecursion, AllZip}
use Rattle.std.specs.Ordering.{is_lt}
use Rattle.std.proofs.lemmas.List.{append-nil}
use Rattle.std.proofs.lemmas.List.Sorted.{IsPermutation-refl, IsPermutation-trans, IsPermutation-append}
use Rattle.aql_value.specs.Datum.{Datum}
use Rattle.aql_tree.specs.declared.syntax.Ident.{Ident}
use Rattle.aql_meaning.specs.AtRows.{keys_of, row_before}
use Rattle.aql_meaning.specs.Clauses.{keys_cmp}
use Rattle.aql_meaning.specs.Documents.{projection, documents_kept, index_keys, ScannedInOrder}
use Rattle.aql_meaning.specs.Merges.{Merged}
use Rattle.aql_meaning.specs.Row.{Row, bind}
use Rattle.aql_meaning.specs.laws.Shuffles.{shuffle, flat_permuted}
use Rattle.aql_meaning.specs.laws.SomeOrder.{keyed_order}
use Rattle.aql_plan.specs.Fits.{KeepsOrder, attribute_keys}
use Rattle.aql_plan_laws.proofs.MergedOrder.{merge_does_not_descend}
use Rattle.aql_index.specs.laws.Passing.{InPairs, pairs_filter, in_pairs, from_pairs}
use Rattle.aql_rewrite.specs.laws.Flat.{filter_flat}
use Rattle.aql_rules_filter.specs.laws.Inserted.{sorted_filter_of}
use Rattle.aql_rules_cluster.specs.laws.Mapped.{map_of_all, unmapped, pairs_map, pairs_unmap}
use Rattle.aql_aggregate.specs.Theorems.{all_of}
use Rattle.aql_rules_cluster.specs.laws.Merging.{merged_permutes}
use Rattle.aql_rules_cluster.specs.laws.Projections.{keys_kept}

-- ---- lists

module _ {X : Type 0} (test : X → Bool) where
  each_passing : (xs : List X) → filter test xs ≡ flat_map (λ x. cond (test x) (x ∷ []) []) xs
  each_passing [] = refl
  each_passing (x ∷ xs) = by (test x) (each_passing xs)
    where
      by : (b : Bool) → filter test xs ≡ flat_map (λ y. cond (test y) (y ∷ []) []) xs
          → cond b (x ∷ filter test xs) (filter test xs)
          ≡ cond b (x ∷ []) [] ++ flat_map (λ y. cond (test y) (y ∷ []) []) xs
      by true e = ap (λ ys. x ∷ ys) e
      by false e = e

  pub filter_permuted : (xs ys : List X) → IsPermutation xs ys
      → IsPermutation (filter test xs) (filter test ys)
  filter_permuted xs ys p =
      subst (λ (zs : List X). IsPermutation zs (filter test ys)) (sym (each_passing xs))
      (subst (λ (zs : List X). IsPermutation (flat_map (λ x. cond (test x) (x ∷ []) []) xs) zs)
      (sym (each_passing ys)) (flat_permuted (λ x. cond (test x) (x ∷ []) []) (shuffle xs ys p)))

-- ---- one row

module _ (v : Ident) (pass : Row → Bool) (attrs : Option (List (List ℕ))) (names : List (List ℕ))
    (descending : Bool) (keeps : KeepsOrder names attrs (Some descending)) (row : Row) where
  abbrev by_index : Datum → Datum → Bool
  by_index a b = is_lt (keys_cmp (map (λ name. descending) names) (index_keys names a) (index_keys names b))

  abbrev by_row : Row → Row → Bool
  by_row r s = row_before (map (λ name. descending) names) (attribute_keys v names) r s

  abbrev bound : Datum → Row
  bound d = bind v row (projection attrs d)

  abbrev passing : Datum → Bool
  passing d = pass (bind v row d)

  order_by_index : IsStrictWeakOrder by_index
  order_by_index = keyed_order (map (λ name. descending) names) (index_keys names)

  order_by_row : IsStrictWeakOrder by_row
  order_by_row = keyed_order (map (λ name. descending) names) (keys_of (attribute_keys v names))

  pub same_order : (a b : Datum) → by_row (bound a) (bound b) ≡ by_index a b
  same_order a b = ap₂ (λ ks ls. is_lt (keys_cmp (map (λ name. descending) names) ks ls))
      (keys_kept attrs descending v row a names keeps) (keys_kept attrs descending v row b names keeps)

  bound_twice : (ds : List Datum) → map (bind v row) (map (projection attrs) ds) ≡ map bound ds
  bound_twice [] = refl
  bound_twice (d ∷ ds) = ap (λ rs. bound d ∷ rs) (bound_twice ds)

  abbrev Scans : (Row → List Datum) → List Row → Type 0
  Scans documents out = ScannedInOrder names descending v pass attrs documents (row ∷ []) out

  -- of one shard: what passes, in order, and as rows
  abbrev Passed : List Datum → List Row → Type 0
  Passed documents out = (kept : List Datum) × IsPermutation (filter passing documents) kept
      × InPairs by_index kept × (out ≡ map bound kept)

  pub passed : (documents : Row → List Datum) (out : List Row) → Scans documents out
      → Passed (documents row) out
  passed documents out ([], each, is) = absurd each
  passed documents out (list ∷ other ∷ lists, each, is) = absurd each.1
  passed documents out (list ∷ [], each, is) =
      let sorted = each.0.0 in
      let order = each.0.1 in (
        filter passing sorted,
        filter_permuted passing (documents row) sorted order.0,
        pairs_filter by_index passing sorted
            (in_pairs by_index order_by_index sorted order.1),
        is ∙ append-nil (map (bind v row) list) ∙ ap (map (bind v row)) each.0.2
            ∙ bound_twice (filter passing sorted),
      )

  -- of all shards
  pub record AllPassed (part : ℕ → Row → List Datum) (ss : List ℕ) (lists : List (List Row)) : Type 0 where
    pub kept : List (List Datum)
    pub all : IsPermutation (flat_map (λ s. filter passing (part s row)) ss) (all_of kept)
    pub sorted : AllByRecursion (IsSortedBy by_row) lists
    pub rows : lists ≡ map (map bound) kept

  all_passed : (part : ℕ → Row → List Datum) (ss : List ℕ) (lists : List (List Row))
      → AllZip (λ s given. Scans (part s) given) ss lists → AllPassed part ss lists
  all_passed part [] [] h =
      record { kept = []; all = IsPermutation-refl []; sorted = tt; rows = refl }
  all_passed part [] (l ∷ lists) h = absurd h
  all_passed part (s ∷ ss) [] h = absurd h
  all_passed part (s ∷ ss) (l ∷ lists) h =
      let one = passed (part s) l h.0 in
      let more = all_passed part ss lists h.1 in record {
        kept = one.0 ∷ more.kept;
        all = IsPermutation-append _ _ _ _ one.1 more.all;
        sorted = (
          from_pairs by_row order_by_row l
              (subst (InPairs by_row) (sym one.3)
              (pairs_map bound by_row by_index same_order one.0 one.2)),
          more.sorted,
        );
        rows = ap₂ (λ x xs. x ∷ xs) one.3 more.rows;
      }

  -- what passes of all documents, gathered
  pub record Gathered (documents : Row → List Datum) (out : List Row) : Type 0 where
    pub kept : List Datum
    pub all : IsPermutation (filter passing (documents row)) kept
    pub sorted : IsSortedBy by_index kept
    pub rows : out ≡ map bound kept

  gathered : (documents : Row → List Datum) (part : ℕ → Row → List Datum) (ss : List ℕ)
      → IsPermutation (documents row) (flat_map (λ s. part s row) ss)
      → (lists : List (List Row)) (out : List Row) → AllPassed part ss lists → Merged by_row lists out
      → Gathered documents out
  gathered documents part ss p lists out shards m =
      let back = unmapped bound (all_of shards.kept) out
      (subst (λ (rows : List Row). IsPermutation rows out)
      (ap all_of shards.rows ∙ map_of_all bound shards.kept) (merged_permutes by_row out lists m)) in record {
        kept = back.0;
        all = IsPermutation-trans _ _ _
            (subst (IsPermutation (filter passing (documents row))) (filter_flat passing (λ s. part s row) ss)
            (filter_permuted passing (documents row) (flat_map (λ s. part s row) ss) p))
            (IsPermutation-trans _ _ _ shards.all back.1);
        sorted = from_pairs by_index order_by_index back.0
            (pairs_unmap bound by_row by_index same_order back.0
            (subst (InPairs by_row) back.2 (in_pairs by_row order_by_row out
            (merge_does_not_descend (map (λ name. descending) names) (attribute_keys v names) lists out
            shards.sorted m))));
        rows = back.2;
      }

  -- what does not pass goes in between
  between : (documents : Row → List Datum) (out : List Row) (g : Gathered documents out) (mid : List Datum)
      → IsPermutation (documents row) mid → IsSortedBy by_index mid → g.kept ≡ filter passing mid
      → Scans documents out
  between documents out g mid p sorted e = (
    documents_kept v pass attrs row mid ∷ [],
    ((mid, (p, sorted), refl), tt),
    g.rows ∙ ap (map bound) e ∙ sym (bound_twice (filter passing mid))
        ∙ sym (append-nil (map (bind v row) (documents_kept v pass attrs row mid))),
  )

  pub merged_in_order : (documents : Row → List Datum) (part : ℕ → Row → List Datum) (ss : List ℕ)
      → IsPermutation (documents row) (flat_map (λ s. part s row) ss)
      → (lists : List (List Row)) (out : List Row) → AllZip (λ s given. Scans (part s) given) ss lists
      → Merged by_row lists out → Scans documents out
  merged_in_order documents part ss p lists out h m =
      let g = gathered documents part ss p lists out (all_passed part ss lists h) m in
      let full = sorted_filter_of by_index order_by_index passing (documents row) g.kept g.all g.sorted in
      between documents out g full.0 full.1 full.2 full.3
