-- Inputs by number.
use Rattle.std.proofs.Common.{ℕ, zero, suc, ◌≡◌, ◌<◌, ◌≤◌, ◌⊎◌, inl, inr, nat_lt, true, false, refl, sym, ◌∙◌, arith}
use Rattle.std.proofs.lemmas.Bool.{cases_lt, lt-ltb, le-ltb}
use mathlib.Core.Bool.{false≢true}
use Rattle.aql_exec.specs.Operators.{is_below, OfSome}

pub below_is : (n k : ℕ) → is_below n k ≡ true → k < n
below_is zero k e = absurd (false≢true e)
below_is (suc n) zero e = omega arith
below_is (suc n) (suc k) e = (let l = below_is n k e in omega (arith, l))

pub is_below_true : (n k : ℕ) → k < n → is_below n k ≡ true
is_below_true zero k l = absurd (omega (arith, l))
is_below_true (suc n) zero l = refl
is_below_true (suc n) (suc k) l = is_below_true n k (omega (arith, l))

not_below : (n k : ℕ) → n ≤ k → is_below n k ≡ false
not_below zero k l = refl
not_below (suc n) zero l = absurd (omega (arith, l))
not_below (suc n) (suc k) l = not_below n k (omega (arith, l))

pub is_below_lt : (n k : ℕ) → nat_lt k n ≡ is_below n k
is_below_lt n k = by (cases_lt k n)
  where
    by : (k < n) ⊎ (n ≤ k) → nat_lt k n ≡ is_below n k
    by (inl l) = lt-ltb k n l ∙ sym (is_below_true n k l)
    by (inr l) = le-ltb k n l ∙ sym (not_below n k l)

-- what is said of inputs where there are some
pub said_of_some : (n k : ℕ) (said : Type 0) → k < n → OfSome n said → said
said_of_some zero k said l h = absurd (omega (arith, l))
said_of_some (suc n) k said l h = h

pub of_some : (n : ℕ) (said : Type 0) → (0 < n → said) → OfSome n said
of_some zero said h = tt
of_some (suc n) said h = h (omega arith)

-- an input that is no input: there are none
pub of_none : (n k : ℕ) (said : Type 0) → n ≤ k → OfSome n (k < n) → OfSome n said
of_none zero k said l h = tt
of_none (suc n) k said l h = absurd (omega (arith, l, h))
