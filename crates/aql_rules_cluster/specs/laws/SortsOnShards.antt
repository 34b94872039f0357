-- What distribute-sort-to-cluster makes of a part, the part may give.
use Rattle.std.proofs.Common.{◌≡◌, ◌∙◌, ℕ, List, [], ◌∷◌, map, take, Bool, true, refl, ap, ap₂, sym, subst}
use Rattle.std.specs.Prelude.{IsPermutation, Option, Some, None}
use Rattle.std.specs.List.{AllByRecursion, AllZip}
use Rattle.std.proofs.lemmas.List.Sorted.{IsPermutation-trans, IsPermutation-sym}
use Rattle.aql_tree.specs.Tree.{ExprTrees}
use Rattle.aql_meaning.specs.AtRows.{keys_of, row_before}
use Rattle.aql_meaning.specs.Clauses.{first_rows}
use Rattle.aql_meaning.specs.Merges.{Merged}
use Rattle.aql_meaning.specs.Row.{Row}
use Rattle.aql_meaning.specs.Uses.{Uses}
use Rattle.aql_meaning.specs.laws.SomeOrder.{keyed_order}
use Rattle.aql_plan.specs.declared.facts.Facts.{Facts}
use Rattle.aql_plan.specs.Plan.{Plan, Over, Sort, Remote}
use Rattle.aql_plan.specs.Refines.{dataset}
use Rattle.aql_plan.specs.Runs.{Dataset, Inside, Runs, targets, sent_to}
use Rattle.aql_plan.specs.laws.SomeMerge.{some_merged}
use Rattle.aql_plan_laws.specs.laws.Agreement.{rows_agree}
use Rattle.aql_rewrite.specs.declared.swap.Rename.{Rename}
use Rattle.aql_rewrite.specs.Swaps.{Replaced}
use Rattle.aql_rules_cluster.specs.DistributeSortToCluster.{SortsInside, sorted, sorted_first}
use Rattle.aql_rules_cluster.specs.laws.Merging.{merged_permutes}
use Rattle.aql_rules_cluster.specs.laws.SortedRows.{all_permuted, sort_gives, gives_sort, merged_in_pairs, firsts_of_merge}
use Rattle.aql_index.specs.laws.Passing.{InPairs}

-- ---- what the shards give

module _ (w : Dataset) (f : Plan) (start : Row) (taken : List Row) (directions : List Bool) (es : ExprTrees)
    (n : Option ℕ) where
  abbrev GivesSorted : ℕ → List Row → Type 0
  GivesSorted shard rows = Runs (Over (Over f (Sort directions es n)) Remote) w
      (Inside shard (sent_to f w shard taken)) start rows

  abbrev GivesUnsorted : ℕ → List Row → Type 0
  GivesUnsorted shard rows = Runs (Over f Remote) w (Inside shard (sent_to f w shard taken)) start rows

  -- the rows of each shard, and these in order, of which the first ones come
  record Shards (shards : List ℕ) (lists : List (List Row)) : Type 0 where
    pub parts : List (List Row)
    pub whole : List (List Row)
    pub given : AllZip GivesUnsorted shards parts
    pub permuted : AllZip IsPermutation parts whole
    pub ordered : AllByRecursion (InPairs (row_before directions es)) whole
    pub first : lists ≡ map (first_rows n) whole

  shards_of : (shards : List ℕ) (lists : List (List Row)) → AllZip GivesSorted shards lists
      → Shards shards lists
  shards_of [] [] h =
      record { parts = []; whole = []; given = tt; permuted = tt; ordered = tt; first = refl }
  shards_of [] (l ∷ lists) h = absurd h
  shards_of (shard ∷ shards) [] h = absurd h
  shards_of (shard ∷ shards) (l ∷ lists) h =
      let more = shards_of shards lists h.1 in
      let rows = h.0.1.0 in
      let made = h.0.1.2 in
      let s = sort_gives directions es rows made.0 made.1 in record {
        parts = rows ∷ more.parts;
        whole = made.0 ∷ more.whole;
        given = ((rows, h.0.1.1, refl), more.given);
        permuted = (s.0, more.permuted);
        ordered = (s.1, more.ordered);
        first = ap₂ (λ x xs. x ∷ xs) (h.0.2 ∙ made.2) more.first;
      }

all_kept : (lists : List (List Row)) → map (first_rows None) lists ≡ lists
all_kept [] = refl
all_kept (l ∷ lists) = ap (λ ls. l ∷ ls) (all_kept lists)

first_taken : (n : ℕ) (lists : List (List Row)) → map (first_rows (Some n)) lists ≡ map (take n) lists
first_taken n [] = refl
first_taken n (l ∷ lists) = ap (λ ls. take n l ∷ ls) (first_taken n lists)

-- ---- the rule

pub sorts_refine : (facts : Facts) (us : Uses) (p q : Plan) (r : Option Rename)
    → SortsInside facts us p q r → Replaced true facts us p q r
sorts_refine facts _ _ _ _ (sorted {us = us} {fragment = f} {old = old} {directions = directions}
    {old_keys = old_keys} {keys = es} servers) = λ db meets start out g.
    let w = dataset facts db in
    let lt = row_before directions es in
    let k = shards_of w f start g.0 directions es None (targets f w) g.1 g.3 in
    let mid = some_merged (row_before old old_keys) (keyed_order old (keys_of old_keys)) k.parts in
    let m = subst (λ (ls : List (List Row)). Merged lt ls out) (k.first ∙ all_kept k.whole) g.4 in
    let both = IsPermutation-trans _ _ _
    (IsPermutation-sym _ _ (merged_permutes (row_before old old_keys) mid.0 k.parts mid.1))
    (IsPermutation-trans _ _ _ (all_permuted k.parts k.whole k.permuted)
    (merged_permutes lt out k.whole m)) in (
      out,
      (
        mid.0,
        (g.0, k.parts, g.2, k.given, mid.1),
        (
          out,
          gives_sort directions es mid.0 out both (merged_in_pairs directions es k.whole out k.ordered m),
          refl,
        ),
      ),
      rows_agree us out,
    )
sorts_refine facts _ _ _ _ (sorted_first {us = us} {fragment = f} {old = old} {directions = directions}
    {old_keys = old_keys} {keys = es} {limit = n} servers) = λ db meets start out h.
    let w = dataset facts db in
    let lt = row_before directions es in
    let g = h.1 in
    let k = shards_of w f start g.0 directions es (Some n) (targets f w) g.1 g.3 in
    let mid = some_merged (row_before old old_keys) (keyed_order old (keys_of old_keys)) k.parts in
    let m = subst (λ (ls : List (List Row)). Merged lt ls h.0) (k.first ∙ first_taken n k.whole) g.4 in
    let full = firsts_of_merge directions es n k.whole h.0 k.ordered m in
    let both = IsPermutation-trans _ _ _
    (IsPermutation-sym _ _ (merged_permutes (row_before old old_keys) mid.0 k.parts mid.1))
    (IsPermutation-trans _ _ _ (all_permuted k.parts k.whole k.permuted) full.1) in (
      out,
      (
        mid.0,
        (g.0, k.parts, g.2, k.given, mid.1),
        (full.0, gives_sort directions es mid.0 full.0 both full.2, h.2 ∙ sym full.3),
      ),
      rows_agree us out,
    )
