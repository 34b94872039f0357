-- What `parse` reads, as the number of a text.
use Rattle.std.proofs.Common.{◌≡◌, ◌≢◌, ℕ, ℤ, pos, List, [], ◌∷◌, length, Bool, true, false, cond, refl, sym, subst, arith}
use Rattle.std.proofs.lemmas.Bool.{false≢true}
use Rattle.std.specs.Prelude.{FitsSigned, ◌&&◌, ◌==◌, slice_index}
use Rattle.std.specs.Int.{w64}
use Rattle.std.specs.Str.Parse.{IsNumeral, without_leading_sign, signed_digits_value}
use Rattle.std.proofs.lemmas.Str.Parse.{numerals_by_value, tells_all_ascii_digits}
use Rattle.aql_value.specs.Datum.{array_of}
use Rattle.aql_value.specs.View.{datums_in}
use Rattle.aql_value.specs.Convert.{sole_number, text_number, is_numeral, without_minus, in_range}
use Rattle.aql_value.specs.laws.Ranges.{fits_from_in_range, in_range_from_fits}
use Rattle.aql_value.specs.declared.values.Value.{Value}

pub no_sole_number : (vs : List Value) → length vs ≢ 1 → pos 0 ≡ sole_number (array_of (datums_in vs))
no_sole_number [] h = refl
no_sole_number (v ∷ []) h = absurd (h refl)
no_sole_number (v ∷ w ∷ vs) h = refl

-- the test of a numeral is the fact
numeral_from_test : (ds : List ℕ) → is_numeral ds ≡ true → IsNumeral 10 ds
numeral_from_test [] e = absurd (false≢true e)
numeral_from_test (c ∷ cs) e = (omega arith, (numerals_by_value _ tells_all_ascii_digits).to (c ∷ cs) e)

test_from_numeral : (ds : List ℕ) → IsNumeral 10 ds → is_numeral ds ≡ true
test_from_numeral [] h = absurd (omega (arith, h.0))
test_from_numeral (c ∷ cs) h = (numerals_by_value _ tells_all_ascii_digits).from (c ∷ cs) h.1

-- without a plus, only a minus is a sign
no_plus : (s : List ℕ) → (slice_index s 0 == 43) ≡ false → without_leading_sign s ≡ without_minus s
no_plus s e = rw e refl

tests_join : (a b : Bool) → a ≡ true → b ≡ true → (a && b) ≡ true
tests_join a b p q = rw p q

tests_part : (a b : Bool) → (a && b) ≡ true → (a ≡ true) × (b ≡ true)
tests_part true b e = (refl, e)
tests_part false b e = absurd (false≢true e)

-- the fact under which `parse` gives a number is the test
meant : (s ds : List ℕ) (z : ℤ) → without_leading_sign s ≡ ds
    → IsNumeral 10 (without_leading_sign s) × FitsSigned w64 z → (is_numeral ds && in_range z) ≡ true
meant s ds z e h = tests_join (is_numeral ds) (in_range z)
    (test_from_numeral ds (subst (IsNumeral 10) e h.0)) (in_range_from_fits z h.1)

told : (s ds : List ℕ) (z : ℤ) → without_leading_sign s ≡ ds → (is_numeral ds && in_range z) ≡ true
    → IsNumeral 10 (without_leading_sign s) × FitsSigned w64 z
told s ds z e h = let parts = tests_part (is_numeral ds) (in_range z) h in
    (subst (IsNumeral 10) (sym e) (numeral_from_test ds parts.0), fits_from_in_range z parts.1)

from_true : (b : Bool) (z d : ℤ) → b ≡ true → z ≡ cond b z d
from_true true z d e = refl
from_true false z d e = absurd (false≢true e)

from_false : (b : Bool) (z d : ℤ) → (b ≡ true → ⊥) → d ≡ cond b z d
from_false true z d h = absurd (h refl)
from_false false z d h = refl

-- what `parse` gives is the number of the text, and 0 is it where `parse` refuses
pub number_read : (s : List ℕ) → (slice_index s 0 == 43) ≡ false
    → IsNumeral 10 (without_leading_sign s) × FitsSigned w64 (signed_digits_value 10 s)
    → signed_digits_value 10 s ≡ text_number s
number_read s e h =
    let z = signed_digits_value 10 s in
    from_true (is_numeral (without_minus s) && in_range z) z (pos 0)
    (meant s (without_minus s) z (no_plus s e) h)

pub zero_read : (s : List ℕ) → (slice_index s 0 == 43) ≡ false
    → (IsNumeral 10 (without_leading_sign s) × FitsSigned w64 (signed_digits_value 10 s) → ⊥)
    → pos 0 ≡ text_number s
zero_read s e h =
    let z = signed_digits_value 10 s in
    from_false (is_numeral (without_minus s) && in_range z) z (pos 0)
    (λ t. h (told s (without_minus s) z (no_plus s e) t))
