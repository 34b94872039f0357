-- What the shards sort, merged by the keys, is a sorted permutation of all rows; and the first rows of the
-- merge of each shard's first rows are the first of such a permutation.
use Rattle.std.proofs.Common.{◌≡◌, ◌∙◌, ℕ, ◌≤◌, List, [], ◌∷◌, ◌++◌, map, take, drop, length, Bool, true, false, cond, not, refl, ap, sym, subst, arith}
use Rattle.std.specs.Prelude.{filter, zip, IsPermutation, IsSortedBy}
use Rattle.std.specs.List.{AllByRecursion, AllZip}
use Rattle.std.proofs.lemmas.List.{append_assoc, take-append-drop}
use Rattle.std.proofs.lemmas.List.Sorted.{IsPermutation-refl, IsPermutation-trans, IsPermutation-map, IsPermutation-append, IsPermutation-append_left, IsPermutation-append_right, length_permutation}
use Rattle.aql_value.specs.laws.Alls.{all_more, all_append, all_mapped}
use Rattle.aql_tree.specs.Tree.{ExprTrees}
use Rattle.aql_meaning.specs.AtRows.{keys_of, row_before}
use Rattle.aql_meaning.specs.Clauses.{KeyedRow, comes_before, Sorts}
use Rattle.aql_meaning.specs.Merges.{Merged}
use Rattle.aql_meaning.specs.Row.{Row}
use Rattle.aql_meaning.specs.laws.Shuffles.{fronts_swapped}
use Rattle.aql_meaning.specs.laws.SomeOrder.{keyed_order}
use Rattle.aql_plan_laws.proofs.MergedOrder.{merge_does_not_descend}
use Rattle.aql_index.specs.laws.Passing.{InPairs, in_pairs, from_pairs}
use Rattle.aql_rules_cluster.specs.laws.InOrder.{filter_permuted}
use Rattle.aql_rules_cluster.specs.laws.Mapped.{unmapped, pairs_map, pairs_unmap}
use Rattle.aql_aggregate.specs.Theorems.{all_of}
use Rattle.aql_rules_cluster.specs.laws.Merging.{merged_permutes}
use Rattle.aql_rules_cluster.specs.laws.Pairs.{put_all, put_all_permutes, put_all_in_pairs, put_all_taken, pairs_take, upto, upto_taken}

-- lists that are permuted one by one
pub all_permuted : {X : Type 0} (lists others : List (List X)) → AllZip IsPermutation lists others
    → IsPermutation (all_of lists) (all_of others)
all_permuted [] [] h = IsPermutation-refl []
all_permuted [] (m ∷ others) h = absurd h
all_permuted (l ∷ lists) [] h = absurd h
all_permuted (l ∷ lists) (m ∷ others) h =
    IsPermutation-append _ _ _ _ h.0 (all_permuted lists others h.1)

module _ (directions : List Bool) (es : ExprTrees) where
  -- ---- rows with their keys

  abbrev keyed : Row → KeyedRow
  keyed row = (keys_of es row, row)

  zip_keyed : (rows : List Row) → zip (map (keys_of es) rows) rows ≡ map keyed rows
  zip_keyed [] = refl
  zip_keyed (row ∷ rows) = ap (λ ks. keyed row ∷ ks) (zip_keyed rows)

  rows_back : (rows : List Row) → map (λ (k : KeyedRow). k.1) (map keyed rows) ≡ rows
  rows_back [] = refl
  rows_back (row ∷ rows) = ap (λ rs. row ∷ rs) (rows_back rows)

  -- ---- what a SORT gives: a permutation in which no later row comes before an earlier one

  pub sort_gives : (rows out : List Row) → Sorts directions (map (keys_of es) rows) rows out
      → IsPermutation rows out × InPairs (row_before directions es) out
  sort_gives rows out s =
      let a = unmapped keyed rows s.0
      (subst (λ (ks : List KeyedRow). IsPermutation ks s.0) (zip_keyed rows) s.1) in
      let same : out ≡ a.0 = s.3 ∙ ap (map (λ (k : KeyedRow). k.1)) a.2 ∙ rows_back a.0 in
      let up = subst (InPairs (comes_before directions)) a.2
      (in_pairs (comes_before directions) (keyed_order directions (λ (k : KeyedRow). k.0)) s.0 s.2) in (
        subst (IsPermutation rows) (sym same) a.1,
        subst (InPairs (row_before directions es)) (sym same)
            (pairs_unmap keyed (comes_before directions) (row_before directions es) (λ r t. refl) a.0 up),
      )

  pub gives_sort : (rows out : List Row) → IsPermutation rows out → InPairs (row_before directions es) out
      → Sorts directions (map (keys_of es) rows) rows out
  gives_sort rows out p h = (
    map keyed out,
    subst (λ (ks : List KeyedRow). IsPermutation ks (map keyed out)) (sym (zip_keyed rows))
        (IsPermutation-map keyed rows out p),
    from_pairs (comes_before directions) (keyed_order directions (λ (k : KeyedRow). k.0)) (map keyed out)
        (pairs_map keyed (comes_before directions) (row_before directions es) (λ r t. refl) out h),
    sym (rows_back out),
  )

  -- ---- the merge

  all_sorted : (lists : List (List Row)) → AllByRecursion (InPairs (row_before directions es)) lists
      → AllByRecursion (IsSortedBy (row_before directions es)) lists
  all_sorted lists h = all_more (InPairs (row_before directions es)) (IsSortedBy (row_before directions es))
      (from_pairs (row_before directions es) (keyed_order directions (keys_of es))) lists h

  pub merged_in_pairs : (lists : List (List Row)) (out : List Row)
      → AllByRecursion (InPairs (row_before directions es)) lists
      → Merged (row_before directions es) lists out → InPairs (row_before directions es) out
  merged_in_pairs lists out h m =
      in_pairs (row_before directions es) (keyed_order directions (keys_of es)) out
      (merge_does_not_descend directions es lists out (all_sorted lists h) m)

  -- ---- the first rows

  module _ (n : ℕ) where
    abbrev fronts : List (List Row) → List (List Row)
    fronts lists = map (take n) lists

    abbrev backs : List (List Row) → List (List Row)
    backs lists = map (drop n) lists

    swapped : (a b c d : List Row) → IsPermutation ((a ++ b) ++ (c ++ d)) ((a ++ c) ++ (b ++ d))
    swapped a b c d =
        subst (λ (xs : List Row). IsPermutation xs ((a ++ c) ++ (b ++ d))) (sym (append_assoc a b (c ++ d)))
        (subst (λ (xs : List Row). IsPermutation (a ++ (b ++ (c ++ d))) xs) (sym (append_assoc a c (b ++ d)))
        (IsPermutation-append_right a _ _ (fronts_swapped b c d)))

    parted : (lists : List (List Row))
        → IsPermutation (all_of lists) (all_of (fronts lists) ++ all_of (backs lists))
    parted [] = IsPermutation-refl []
    parted (l ∷ lists) = IsPermutation-trans _ _ _
        (IsPermutation-append _ _ _ _
        (subst (IsPermutation l) (sym (take-append-drop n l)) (IsPermutation-refl l)) (parted lists))
        (swapped (take n l) (drop n l) (all_of (fronts lists)) (all_of (backs lists)))

    fronts_in_pairs : (lists : List (List Row)) → AllByRecursion (InPairs (row_before directions es)) lists
        → AllByRecursion (InPairs (row_before directions es)) (fronts lists)
    fronts_in_pairs lists h = all_mapped (InPairs (row_before directions es)) (take n) lists
        (all_more (InPairs (row_before directions es)) (λ l. InPairs (row_before directions es) (take n l))
        (pairs_take (row_before directions es) n) lists h)

    -- how many rows a row does not come before
    abbrev up : Row → List Row → ℕ
    up r xs = upto (row_before directions es) r xs

    up_append : (r : Row) (xs ys : List Row) → up r xs ≤ up r (xs ++ ys) × (up r ys ≤ up r (xs ++ ys))
    up_append r [] ys = (omega arith, omega arith)
    up_append r (x ∷ xs) ys = by (not (row_before directions es r x)) (up_append r xs ys)
      where
        kept : List Row → List Row
        kept rows = filter (λ w. not (row_before directions es r w)) rows

        by : (b : Bool) → up r xs ≤ up r (xs ++ ys) × (up r ys ≤ up r (xs ++ ys))
            → (length (cond b (x ∷ kept xs) (kept xs))
            ≤ length (cond b (x ∷ kept (xs ++ ys)) (kept (xs ++ ys))))
            × (up r ys ≤ length (cond b (x ∷ kept (xs ++ ys)) (kept (xs ++ ys))))
        by true k = (omega (arith, k.0), omega (arith, k.1))
        by false k = k

    -- each row that a limit dropped has n rows that it does not come before
    late : (lists : List (List Row)) → AllByRecursion (InPairs (row_before directions es)) lists
        → AllByRecursion (λ r. n ≤ up r (all_of (fronts lists))) (all_of (backs lists))
    late [] h = tt
    late (l ∷ lists) h = all_append (λ r. n ≤ up r (take n l ++ all_of (fronts lists))) (drop n l)
        (all_of (backs lists))
        (all_more (λ r. n ≤ up r (take n l)) (λ r. n ≤ up r (take n l ++ all_of (fronts lists)))
        (λ r k. let a = (up_append r (take n l) (all_of (fronts lists))).0 in omega (arith, k, a)) (drop n l)
        (upto_taken (row_before directions es) n l h.0))
        (all_more (λ r. n ≤ up r (all_of (fronts lists)))
        (λ r. n ≤ up r (take n l ++ all_of (fronts lists)))
        (λ r k. let a = (up_append r (take n l) (all_of (fronts lists))).1 in omega (arith, k, a))
        (all_of (backs lists)) (late lists h.1))

    up_permuted : (r : Row) (xs ys : List Row) → IsPermutation xs ys → up r xs ≡ up r ys
    up_permuted r xs ys p = sym (length_permutation
        (filter (λ w. not (row_before directions es r w)) xs)
        (filter (λ w. not (row_before directions es r w)) ys)
        (filter_permuted (λ w. not (row_before directions es r w)) xs ys p))

    -- the first of a merge of first rows are the first of a sorted permutation of all: what was dropped is
    -- put back where it belongs, and that is after them
    pub firsts_of_merge : (lists : List (List Row)) (out : List Row)
        → AllByRecursion (InPairs (row_before directions es)) lists
        → Merged (row_before directions es) (fronts lists) out
        → (full : List Row) × IsPermutation (all_of lists) full × InPairs (row_before directions es) full
        × (take n full ≡ take n out)
    firsts_of_merge lists out h m =
        let lt = row_before directions es in
        let order = keyed_order directions (keys_of es) in
        let up_out = merged_in_pairs (fronts lists) out (fronts_in_pairs lists h) m in
        let p = merged_permutes lt out (fronts lists) m in
        let after = all_more (λ r. n ≤ up r (all_of (fronts lists))) (λ r. n ≤ up r out)
        (λ r k. let e = up_permuted r (all_of (fronts lists)) out p in omega (arith, k, e))
        (all_of (backs lists)) (late lists h) in (
          put_all lt (all_of (backs lists)) out,
          IsPermutation-trans _ _ _ (parted lists)
              (IsPermutation-trans _ _ _ (IsPermutation-append_left (all_of (backs lists)) _ _ p)
              (put_all_permutes lt (all_of (backs lists)) out)),
          put_all_in_pairs lt order (all_of (backs lists)) out up_out,
          put_all_taken lt order n (all_of (backs lists)) out up_out after,
        )
