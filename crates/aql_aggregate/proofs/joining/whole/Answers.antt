use Rattle.std.proofs.Common.{◌≡◌, ◌∙◌, ◌^◌, ap, ap₂, arith}
use Rattle.std.specs.Prelude.{ℤ, pos, negsuc, ◌+ℤ◌, ◌*ℤ◌, ◌-ℤ◌}
use Rattle.std.specs.Int.{w128, int_div_euclid, int_rem_euclid}
use Rattle.std.proofs.lemmas.Int.{ints}
use mir.Val.{to_z, of_z}
use Rattle.aql_value.specs.Convert.{number_or_null}
use Rattle.aql_aggregate.specs.laws.Totals.{halves}
use Rattle.aql_aggregate.proofs.joining.whole.Goals as goal

pub returns-then-top : goal.returns-then-top
returns-then-top c =
    let high = c.args.high in
    let low = c.args.low in
    let quotient = c.div_euclid.result in
    let rest = c.rem_euclid-rest.result in
    let above = c.ranges.high.sfits in
    let below = c.ranges.low.sfits in
    let same_high : to_z w128 (of_z w128 high) ≡ high = omega (arith, ints, above) in
    let same_low : to_z w128 (of_z w128 low) ≡ low = omega (arith, ints, below) in
    let divided : quotient ≡ int_div_euclid low (pos (2 ^ 63)) = c.div_euclid.ensures
    ∙ ap (λ z. int_div_euclid z (pos (2 ^ 63))) same_low in
    let left : rest ≡ int_rem_euclid low (pos (2 ^ 63)) = c.rem_euclid-rest.ensures.value
    ∙ ap (λ z. int_rem_euclid z (pos (2 ^ 63))) same_low in
    let parts : quotient *ℤ pos (2 ^ 63) +ℤ rest ≡ low =
    ap₂ (λ q r. q *ℤ pos (2 ^ 63) +ℤ r) divided left ∙ halves low in
    let least = c.rem_euclid-rest.ensures.lower_bound in
    let most = c.rem_euclid-rest.ensures.upper_bound in
    let same_quotient : to_z w128 (of_z w128 quotient) ≡ quotient =
    omega (arith, ints, parts, least, most, below) in
    let same_rest : to_z w128 (of_z w128 rest) ≡ rest = omega (arith, ints, least, most) in
    let fits = c.in-Some.ensures.0 in
    let is = c.in-Some.ensures.1 in
    let top : c.in-Some.top ≡ high +ℤ quotient = is ∙ ap₂ (λ z y. z +ℤ y) same_high same_quotient in
    let told = c.if-top.true in
    let minus_one : c.in-Some.top ≡ negsuc 0 = omega (arith, ints, told, fits, is) in
    let sum : to_z w128 (of_z w128 (to_z w128 (of_z w128 rest) -ℤ pos (2 ^ 63)))
    ≡ high *ℤ pos (2 ^ 63) +ℤ low = omega (arith, ints, same_rest, least, most, parts, top, minus_one) in
    c.in_64_bits-then-top.ensures ∙ ap number_or_null sum
