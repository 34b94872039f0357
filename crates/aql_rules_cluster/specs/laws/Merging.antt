-- A merge of lists is a permutation of all their rows.
use Rattle.std.proofs.Common.{◌≡◌, ℕ, zero, suc, List, [], ◌∷◌, ◌++◌, Bool, refl, ap₂, sym, subst}
use Rattle.std.specs.Prelude.{Some, slice_get, slice_set, IsPermutation}
use Rattle.std.specs.List.{AllByRecursion}
use Rattle.std.proofs.lemmas.Option.{same_Some}
use Rattle.std.proofs.lemmas.List.Sorted.{IsPermutation-refl, IsPermutation-cons, IsPermutation-trans, IsPermutation-append_right, IsPermutation-middle}
use Rattle.aql_meaning.specs.Row.{Row}
use Rattle.aql_meaning.specs.Merges.{Merged}
use Rattle.aql_aggregate.specs.Theorems.{all_of}

taken_out : (lists : List (List Row)) (place : ℕ) (row : Row) (rest : List Row)
    → slice_get lists place ≡ Some (row ∷ rest)
    → IsPermutation (all_of lists) (row ∷ all_of (slice_set lists place rest))
taken_out [] place row rest e = cc
taken_out (l ∷ lists) zero row rest e =
    subst (λ (m : List Row). IsPermutation (m ++ all_of lists) (row ∷ (rest ++ all_of lists)))
    (sym (same_Some l (row ∷ rest) e)) (IsPermutation-refl (row ∷ (rest ++ all_of lists)))
taken_out (l ∷ lists) (suc place) row rest e = IsPermutation-trans _ _ _
    (IsPermutation-append_right l _ _ (taken_out lists place row rest e))
    (IsPermutation-middle l row (all_of (slice_set lists place rest)))

all_empty : (lists : List (List Row)) → AllByRecursion (λ list. list ≡ []) lists → all_of lists ≡ []
all_empty [] h = refl
all_empty (l ∷ lists) h = ap₂ (λ xs ys. xs ++ ys) h.0 (all_empty lists h.1)

pub merged_permutes : (before : Row → Row → Bool) (out : List Row) (lists : List (List Row))
    → Merged before lists out → IsPermutation (all_of lists) out
merged_permutes before [] lists m =
    subst (λ (rows : List Row). IsPermutation rows []) (sym (all_empty lists m)) (IsPermutation-refl [])
merged_permutes before (row ∷ out) lists m = IsPermutation-trans _ _ _
    (taken_out lists m.0 row m.1 m.2)
    (IsPermutation-cons row _ _ (merged_permutes before out (slice_set lists m.0 m.1) m.4))
