-- So many lists can always be merged, by any keys.
use Rattle.std.proofs.Common.{ℕ, zero, suc, ◌≡◌, ◌<◌, List, [], ◌∷◌, Bool, false, refl, sym, ap, ◌∙◌, arith}
use Rattle.std.specs.Prelude.{Some, slice_get, slice_set}
use Rattle.std.specs.List.{AllByRecursion}
use Rattle.aql_tree.specs.Tree.{ExprTrees}
use Rattle.aql_meaning.specs.Row.{Row}
use Rattle.aql_meaning.specs.AtRows.{row_before, keys_of}
use Rattle.aql_meaning.specs.Merges.{NotBefore, Merged}
use Rattle.aql_meaning.specs.laws.SomeOrder.{keyed_order}
use Rattle.aql_plan.specs.laws.SomeMerge.{some_merged}
use Rattle.aql_exec.specs.Operators.{MergedOf}

-- the first so many lists of a family
abbrev listed : ℕ → (ℕ → List Row) → List (List Row)
listed zero lists = []
listed (suc n) lists = lists 0 ∷ listed n (λ k. lists (suc k))

-- a family with another list at a place
abbrev with_list : ℕ → List Row → (ℕ → List Row) → ℕ → List Row
with_list zero list lists zero = list
with_list zero list lists (suc k) = lists (suc k)
with_list (suc at) list lists zero = lists zero
with_list (suc at) list lists (suc k) = with_list at list (λ j. lists (suc j)) k

not_zero : {k : ℕ} → suc k ≡ 0 → ⊥
not_zero e = absurd (omega (arith, e))

below_back : {k n : ℕ} → suc k < suc n → k < n
below_back l = omega (arith, l)

below_on : {k n : ℕ} → k < n → suc k < suc n
below_on l = omega (arith, l)

same_back : {j at : ℕ} → (suc j ≡ suc at → ⊥) → j ≡ at → ⊥
same_back d e = d (ap suc e)

others_kept : (at : ℕ) (list : List Row) (lists : ℕ → List Row) (j : ℕ) → (j ≡ at → ⊥)
    → with_list at list lists j ≡ lists j
others_kept zero list lists zero d = absurd (d refl)
others_kept zero list lists (suc j) d = refl
others_kept (suc at) list lists zero d = refl
others_kept (suc at) list lists (suc j) d = others_kept at list (λ j. lists (suc j)) j (same_back d)

list_there : (at : ℕ) (list : List Row) (lists : ℕ → List Row) → with_list at list lists at ≡ list
list_there zero list lists = refl
list_there (suc at) list lists = list_there at list (λ j. lists (suc j))

set_listed : (n at : ℕ) (list : List Row) (lists : ℕ → List Row)
    → slice_set (listed n lists) at list ≡ listed n (with_list at list lists)
set_listed zero at list lists = refl
set_listed (suc n) zero list lists = refl
set_listed (suc n) (suc at) list lists =
    ap (λ rest. lists 0 ∷ rest) (set_listed n at list (λ k. lists (suc k)))

at_listed : (n at : ℕ) (lists : ℕ → List Row) (list : List Row) → slice_get (listed n lists) at ≡ Some list
    → (at < n) × (lists at ≡ list)
at_listed zero at lists list e = absurd (cc)
at_listed (suc n) zero lists list e = (omega arith, cc)
at_listed (suc n) (suc at) lists list e =
    let o = at_listed n at (λ k. lists (suc k)) list e in (below_on o.0, o.1)

module _ (before : Row → Row → Bool) where
  none_before : (n : ℕ) (lists : ℕ → List Row) (x : Row)
      → AllByRecursion (NotBefore before x) (listed n lists)
      → (j : ℕ) (y : Row) (ys : List Row) → j < n → lists j ≡ y ∷ ys → before y x ≡ false
  none_before zero lists x h j y ys l e = absurd (omega (arith, l))
  none_before (suc n) lists x h zero y ys l e = rw e at h.0
  none_before (suc n) lists x h (suc j) y ys l e =
      none_before n (λ k. lists (suc k)) x h.1 j y ys (below_back l) e

  all_empty : (n : ℕ) (lists : ℕ → List Row) → AllByRecursion (λ list. list ≡ []) (listed n lists)
      → (k : ℕ) → k < n → lists k ≡ []
  all_empty zero lists h k l = absurd (omega (arith, l))
  all_empty (suc n) lists h zero l = h.0
  all_empty (suc n) lists h (suc k) l = all_empty n (λ j. lists (suc j)) h.1 k (below_back l)

  merged_of : (n : ℕ) (lists : ℕ → List Row) (out : List Row) → Merged before (listed n lists) out
      → MergedOf before n lists out
  merged_of n lists [] h = all_empty n lists h
  merged_of n lists (x ∷ out) h =
      let o = at_listed n h.0 lists (x ∷ h.1) h.2 in (
        h.0,
        with_list h.0 h.1 lists,
        o.0,
        o.1 ∙ ap (λ rest. x ∷ rest) (sym (list_there h.0 h.1 lists)),
        others_kept h.0 h.1 lists,
        none_before n lists x h.3,
        merged_of n (with_list h.0 h.1 lists) out (rw (← set_listed n h.0 h.1 lists) h.4),
      )

pub some_merge : (directions : List Bool) (es : ExprTrees) (n : ℕ) (lists : ℕ → List Row)
    → (out : List Row) × MergedOf (row_before directions es) n lists out
some_merge directions es n lists =
    let o = some_merged (row_before directions es) (keyed_order directions (keys_of es)) (listed n lists) in
    (o.0, merged_of (row_before directions es) n lists o.0 o.1)
