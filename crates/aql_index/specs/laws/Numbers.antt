-- The numbers below one: how many they are, the next of them, and the one at a place.
use Rattle.std.proofs.Common.{◌≡◌, ◌∙◌, ℕ, zero, suc, ◌+◌, ◌<◌, ◌⊎◌, inl, inr, List, [], ◌∷◌, ◌++◌, length, Some, slice_get, refl, ap, sym, arith, length-append, eq-or-lt_of_le}
use Rattle.aql_plan.specs.Facts.{numbers_below}

pub length-numbers_below : (n : ℕ) → length (numbers_below n) ≡ n
length-numbers_below zero = refl
length-numbers_below (suc n) =
    let a = length-append (numbers_below n) (n ∷ []) in
    let b = length-numbers_below n in
    omega (arith, a, b)

pub next_below : (n : ℕ) → numbers_below (n + 1) ≡ numbers_below n ++ n ∷ []
next_below n = let one : n + 1 ≡ suc n = omega arith in ap numbers_below one

-- ---- the number at a place

at_front : (xs ys : List ℕ) (i x : ℕ) → slice_get xs i ≡ Some x → slice_get (xs ++ ys) i ≡ Some x
at_front [] ys i x e = cc
at_front (y ∷ xs) ys zero x e = e
at_front (y ∷ xs) ys (suc i) x e = at_front xs ys i x e

at_seam : (xs : List ℕ) (i x : ℕ) → i ≡ length xs → slice_get (xs ++ x ∷ []) i ≡ Some x
at_seam [] zero x e = refl
at_seam [] (suc i) x e = absurd (omega (arith, e))
at_seam (y ∷ xs) zero x e = absurd (omega (arith, e))
at_seam (y ∷ xs) (suc i) x e = at_seam xs i x (omega (arith, e))

pub number_at : (n i : ℕ) → i < n → slice_get (numbers_below n) i ≡ Some i
number_at zero i h = absurd (omega (arith, h))
number_at (suc n) i h = by (eq-or-lt_of_le (omega (arith, h))) (number_at n i)
  where
    by : ((i ≡ n) ⊎ (i < n)) → (i < n → slice_get (numbers_below n) i ≡ Some i)
        → slice_get (numbers_below n ++ n ∷ []) i ≡ Some i
    by (inl same) below = ap (λ (m : ℕ). slice_get (numbers_below n ++ m ∷ []) i) (sym same)
        ∙ at_seam (numbers_below n) i i (same ∙ sym (length-numbers_below n))
    by (inr less) below = at_front (numbers_below n) (n ∷ []) i i (below less)
