-- The test of 64 bits is the fact.
use Rattle.std.proofs.Common.{◌≡◌, ◌<◌, ◌≤◌, ℤ, pos, negsuc, true, sym, ◌∙◌, arith}
use Rattle.std.specs.Prelude.{FitsSigned}
use Rattle.std.specs.Int.{w64}
use Rattle.std.proofs.lemmas.Bool.{ltb-true, leb-true, lt-ltb, le-leb}
use Rattle.std.proofs.Math.Bool.{and-true}
use Rattle.aql_value.specs.Convert.{in_range}

pub fits_from_in_range : (z : ℤ) → in_range z ≡ true → FitsSigned w64 z
fits_from_in_range (pos n) e = record { sfits = ltb-true _ _ e }
fits_from_in_range (negsuc n) e =
    let low : n ≤ 9223372036854775807 = leb-true _ _ (sym (and-true _) ∙ e) in record { sfits = omega arith }

pub in_range_from_fits : (z : ℤ) → FitsSigned w64 z → in_range z ≡ true
in_range_from_fits (pos n) f = lt-ltb n 9223372036854775808 f.sfits
in_range_from_fits (negsuc n) f =
    let high : n < 9223372036854775808 = f.sfits in and-true _ ∙ le-leb n 9223372036854775807 (omega arith)
