-- The binary digits of a number, by the greatest power of two in it.
use Rattle.std.proofs.Common.{◌≡◌, ℕ, zero, suc, ◌+◌, ◌*◌, ◌^◌, ◌<◌, ◌≤◌, Bool, true, false, cond, nat_le, nat_lt, refl, ap, subst, sym, arith}
use Rattle.std.proofs.lemmas.Bool.{leb-true, leb-false, ltb-true, ltb-false}
use Rattle.std.proofs.Math.Nat.{pow-suc, pow-le-pow_right, one-le-pow}
use Rattle.aql_opt.specs.Estimate.{digits_upto, binary_digits}

-- a number below twice a power of two is below each greater one
below_power : (l k n : ℕ) → l < k → n < 2 * 2 ^ l → n < 2 ^ k
below_power l k n h b =
    let more = pow-le-pow_right {n = 2} (omega arith) {i = suc l} {j = k} (omega (arith, h)) in
    omega (arith, b, more, pow-suc 2 l)

digits_at : (k l n : ℕ) → l < k → 2 ^ l ≤ n → n < 2 * 2 ^ l → digits_upto k n ≡ l + 1
digits_at zero l n h a b = absurd (omega (arith, h))
digits_at (suc k) l n h a b = by (nat_le (2 ^ k) n) refl (nat_lt l k) refl (λ g. digits_at k l n g a b)
  where
    by : (c : Bool) → nat_le (2 ^ k) n ≡ c → (d : Bool) → nat_lt l k ≡ d
        → (l < k → digits_upto k n ≡ l + 1)
        → cond c (suc k) (digits_upto k n) ≡ l + 1
    by true e true f g =
        absurd (omega (arith, leb-true (2 ^ k) n e, below_power l k n (ltb-true l k f) b))
    by true e false f g = omega (arith, ltb-false l k f, h)
    by false e true f g = g (ltb-true l k f)
    by false e false f g =
        let same : k ≡ l = omega (arith, ltb-false l k f, h) in
        absurd (omega (arith, leb-false (2 ^ k) n e, subst (λ (m : ℕ). 2 ^ m ≤ n) (sym same) a))

no_digits : (k : ℕ) → digits_upto k 0 ≡ 0
no_digits zero = refl
no_digits (suc k) = by (nat_le (2 ^ k) 0) refl (no_digits k)
  where
    by : (c : Bool) → nat_le (2 ^ k) 0 ≡ c → digits_upto k 0 ≡ 0
        → cond c (suc k) (digits_upto k 0) ≡ 0
    by true e g =
        let some : 1 ≤ 2 ^ k = one-le-pow k 2 (omega arith) in absurd (omega (arith, leb-true (2 ^ k) 0 e, some))
    by false e g = g

pub digits_of_none : 0 ≡ binary_digits 0
unfolding binary_digits
digits_of_none = sym (no_digits 64)

pub digits_are : (n l : ℕ) → 2 ^ l ≤ n → n < 2 * 2 ^ l → l < 64 → l + 1 ≡ binary_digits n
unfolding binary_digits
digits_are n l a b h = sym (digits_at 64 l n h a b)
