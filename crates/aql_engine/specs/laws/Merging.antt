-- The lists of so many inputs as one list of lists: a merge of the ones is a merge of the other.
use Rattle.std.proofs.Common.{◌≡◌, ◌∙◌, ℕ, zero, suc, ◌<◌, List, [], ◌∷◌, Bool, false, refl, sym, ap, ap₂, subst, arith}
use Rattle.std.specs.Prelude.{Some, slice_get, slice_set}
use Rattle.std.specs.List.{AllByRecursion}
use Rattle.aql_meaning.specs.Row.{Row}
use Rattle.aql_meaning.specs.Merges.{NotBefore, Merged}
use Rattle.aql_exec.specs.Operators.{MergedOf}

-- the first lists, so many
abbrev pub first_lists : ℕ → (ℕ → List Row) → List (List Row)
first_lists zero lists = []
first_lists (suc n) lists = lists 0 ∷ first_lists n (λ k. lists (suc k))

all_empty : (n : ℕ) (lists : ℕ → List Row) → ((k : ℕ) → k < n → lists k ≡ [])
    → AllByRecursion (λ list. list ≡ []) (first_lists n lists)
all_empty zero lists h = tt
all_empty (suc n) lists h =
    (h 0 (omega arith), all_empty n (λ k. lists (suc k)) (λ k l. h (suc k) (omega (arith, l))))

get-first_lists : (n : ℕ) (lists : ℕ → List Row) (k : ℕ) → k < n
    → slice_get (first_lists n lists) k ≡ Some (lists k)
get-first_lists zero lists k l = absurd (omega (arith, l))
get-first_lists (suc n) lists zero l = refl
get-first_lists (suc n) lists (suc k) l = get-first_lists n (λ j. lists (suc j)) k (omega (arith, l))

same_lists : (n : ℕ) (lists others : ℕ → List Row) → ((k : ℕ) → lists k ≡ others k)
    → first_lists n lists ≡ first_lists n others
same_lists zero lists others h = refl
same_lists (suc n) lists others h =
    ap₂ (λ z zs. z ∷ zs) (h 0) (same_lists n (λ k. lists (suc k)) (λ k. others (suc k)) (λ k. h (suc k)))

next_is_not_first : (j : ℕ) → suc j ≡ 0 → ⊥
next_is_not_first j e = absurd (omega (arith, e))

first_is_not_next : (j : ℕ) → 0 ≡ suc j → ⊥
first_is_not_next j e = absurd (omega (arith, e))

before_next : (j k : ℕ) → suc j ≡ suc k → j ≡ k
before_next j k e = omega (arith, e)

set-first_lists : (n : ℕ) (lists left : ℕ → List Row) (k : ℕ) → k < n
    → ((j : ℕ) → (j ≡ k → ⊥) → left j ≡ lists j)
    → slice_set (first_lists n lists) k (left k) ≡ first_lists n left
set-first_lists zero lists left k l h = absurd (omega (arith, l))
set-first_lists (suc n) lists left zero l h = ap (λ zs. left 0 ∷ zs)
    (same_lists n (λ j. lists (suc j)) (λ j. left (suc j)) (λ j. sym (h (suc j) (next_is_not_first j))))
set-first_lists (suc n) lists left (suc k) l h = ap₂ (λ z zs. z ∷ zs) (sym (h 0 (first_is_not_next k)))
    (set-first_lists n (λ j. lists (suc j)) (λ j. left (suc j)) k (omega (arith, l))
    (λ j d. h (suc j) (λ e. d (before_next j k e))))

module _ (before : Row → Row → Bool) where
  not_before : (x : Row) (list : List Row)
      → ((y : Row) (ys : List Row) → list ≡ y ∷ ys → before y x ≡ false) → NotBefore before x list
  not_before x [] h = tt
  not_before x (y ∷ ys) h = h y ys refl

  none_before : (x : Row) (n : ℕ) (lists : ℕ → List Row)
      → ((j : ℕ) (y : Row) (ys : List Row) → j < n → lists j ≡ y ∷ ys → before y x ≡ false)
      → AllByRecursion (NotBefore before x) (first_lists n lists)
  none_before x zero lists h = tt
  none_before x (suc n) lists h = (
    not_before x (lists 0) (λ y ys e. h 0 y ys (omega arith) e),
    none_before x n (λ k. lists (suc k)) (λ j y ys l e. h (suc j) y ys (omega (arith, l)) e),
  )

  pub merged_first_lists : (n : ℕ) (lists : ℕ → List Row) (out : List Row) → MergedOf before n lists out
      → Merged before (first_lists n lists) out
  merged_first_lists n lists [] h = all_empty n lists h
  merged_first_lists n lists (x ∷ out) h = (
    h.0,
    h.1 h.0,
    get-first_lists n lists h.0 h.2 ∙ ap Some h.3,
    none_before x n lists h.5,
    subst (λ ls. Merged before ls out) (sym (set-first_lists n lists h.1 h.0 h.2 h.4))
        (merged_first_lists n h.1 out h.6),
  )
