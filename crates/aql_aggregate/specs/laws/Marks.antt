-- A number marks no sum as bad, and sums of as many numbers as are counted are not cut off.
use Rattle.std.proofs.Common.{◌≡◌, ◌-◌, ◌^◌, ◌≤◌, Bool, true, false, ◌||◌, refl, ap, arith}
use Rattle.std.specs.Prelude.{ℤ, pos, negsuc, neg_ℤ, ◌≤ℤ◌}
use Rattle.std.specs.Int.{saturate_to_bits}
use Rattle.std.proofs.lemmas.Int.{ints}

pub unmarked : (b : Bool) → b || false ≡ b
unmarked true = refl
unmarked false = refl

pub not_saturated : (z : ℤ) → neg_ℤ (pos (2 ^ 127)) ≤ℤ z → z ≤ℤ pos (2 ^ 127 - 1) → saturate_to_bits 127 z ≡ z
not_saturated (pos n) l h = (let k : n ≤ 2 ^ 127 - 1 = omega (arith, ints, h) in ap pos (omega (arith, k)))
not_saturated (negsuc n) l h = (let k : n ≤ 2 ^ 127 - 1 = omega (arith, ints, l) in ap negsuc (omega (arith, k)))
