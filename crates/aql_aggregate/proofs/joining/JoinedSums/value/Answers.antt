use Rattle.std.proofs.Common.{◌≡◌, ◌∙◌, ◌||◌, ◌^◌, false, ap, ap₂, sym, arith, rules}
use Rattle.std.specs.Prelude.{map, pos, ◌+ℤ◌, ◌*ℤ◌, FitsSigned}
use Rattle.std.specs.Int.{w128}
use Rattle.std.proofs.lemmas.Int.{ints}
use mir.Val.{to_z, of_z}
use Rattle.aql_value.specs.Convert.{number_or_null}
use Rattle.aql_value.specs.View.{datum_of}
use Rattle.aql_func.specs.Aggregates.{is_null, part_at}
use Rattle.aql_aggregate.specs.laws.AnyStates.{spoilt_is, sums_value}
use Rattle.aql_aggregate.proofs.joining.JoinedSums.value.Goals as goal

pub returns : goal.returns
returns c ts h =
    let me = c.args.self.now in
    let count = datum_of c.value.result in
    let some : is_null count ≡ false = sym c.is_null.ensures ∙ c.if-is_null.false in
    let above : FitsSigned w128 c.total.result = search rules in
    let below : FitsSigned w128 c.total-2.result = search rules in
    let high : to_z w128 (of_z w128 c.total.result) ≡ c.total.result = omega (arith, ints, above) in
    let low : to_z w128 (of_z w128 c.total-2.result) ≡ c.total-2.result = omega (arith, ints, below) in
    sums_value me ts (datum_of c.whole.result) c.total.result c.total-2.result
    (sym (spoilt_is me ts count h (c.value.ensures (map (part_at (pos 0)) ts) h.counts))
    ∙ ap (λ b. b || me.bad) some ∙ c.if-self.false)
    (c.total.ensures (map (part_at (pos 2)) ts) h.high) (c.total-2.ensures (map (part_at (pos 3)) ts) h.low)
    (c.whole.ensures ∙ ap number_or_null (ap₂ (λ z y. z *ℤ pos (2 ^ 63) +ℤ y) high low))
