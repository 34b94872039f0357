-- The numbers from a place on begin with that number.
use Rattle.std.proofs.Common.{◌≡◌, suc, [], ◌∷◌, ap, arith}
use Rattle.std.specs.Prelude.{ℤ, pos, negsuc, ◌+ℤ◌, ◌<ℤ◌}
use Rattle.std.proofs.lemmas.Int.{ints}
use Rattle.aql_value.specs.Datum.{number}
use Rattle.aql_func.specs.Operators.{numbers, range_length}

pub next_up : (a b : ℤ) → a <ℤ b → numbers (pos 1) a (range_length a b)
    ≡ number a ∷ numbers (pos 1) (a +ℤ pos 1) (range_length (a +ℤ pos 1) b)
next_up a b h =
    let e : range_length a b ≡ suc (range_length (a +ℤ pos 1) b) = omega (arith, ints) in
    ap (numbers (pos 1) a) e

pub next_down : (a b : ℤ) → b <ℤ a → numbers (negsuc 0) a (range_length a b)
    ≡ number a ∷ numbers (negsuc 0) (a +ℤ negsuc 0) (range_length (a +ℤ negsuc 0) b)
next_down a b h =
    let e : range_length a b ≡ suc (range_length (a +ℤ negsuc 0) b) = omega (arith, ints) in
    ap (numbers (negsuc 0) a) e

pub last_number : (step a b : ℤ) → a ≡ b → numbers step a (range_length a b) ≡ number a ∷ []
last_number step a b h =
    let e : range_length a b ≡ 1 = omega (arith, ints) in
    ap (numbers step a) e
