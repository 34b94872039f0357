use Rattle.std.proofs.Common.{◌≡◌, ◌||◌, false, take, ap, sym, subst, ◌∙◌, arith, rules}
use Rattle.std.specs.Prelude.{pos, neg_ℤ, ◌*◌, ◌^◌, ◌+◌, ◌+ℤ◌, ◌≤ℤ◌, FitsSigned}
use Rattle.std.specs.List.{list_any}
use Rattle.std.specs.Int.{w64, w128}
use mir.Val.{to_z}
use Rattle.std.proofs.lemmas.Int.{ints}
use Rattle.aql_value.specs.View.{datum_of, datums_in}
use Rattle.aql_value.specs.Convert.{to_number}
use Rattle.aql_func.specs.Aggregates.{is_bad, exact_sum}
use Rattle.aql_func.proofs.Steps.{done}
use Rattle.aql_func.specs.laws.Sums.{sum_push, bad_push, bad_at, spoils, spoilt, wider}
use Rattle.aql_func.proofs.aggregates.sum_of.Goals as goal
use Rattle.aql_func.proofs.aggregates.sum_of.Goals.{in-Null, in-Num}

pub returns-in_default : goal.returns-in_default
returns-in_default c =
    let vs = c.args.values.now in
    let v = c.value-item.result in
    spoilt (datums_in vs) (bad_at vs c.loop-value.value-index v c.loop-value-test.true
    (ap (λ u. is_bad (datum_of u)) (sym c.value-item.is)
    ∙ spoils v c.in_default.not-Null c.in_default.not-Num))

pub loop-value-preserved : goal.loop-value-preserved
loop-value-preserved c =
    let vs = c.args.values.now in
    let i = c.loop-value.value-index in
    let v = c.value-item.result in
    let ts = datums_in (take i vs) in
    let inv = c.loop-value.invariant in
    let old = to_z w128 c.loop-value.total-bits in
    let new = to_z w128 c.match-value.total-bits in
    let d = done vs i v c.loop-value-test.true c.value-item.is in
    let s = ap exact_sum d ∙ sum_push ts (datum_of v) in
    let g = ap (list_any is_bad) d ∙ bad_push ts (datum_of v) in
    elim c.match-value.branch [
      | in-Null w ↦
          let t : new ≡ old +ℤ pos 0 = omega (arith, ints, w.total-is) in
          let b = wider old (pos 0) i (omega (arith, ints)) (omega (arith, ints)) inv.low inv.high in
          record {
            sum = t ∙ ap (λ z. z +ℤ pos 0) inv.sum
                ∙ sym (s ∙ ap (λ u. exact_sum ts +ℤ to_number (datum_of u)) w.in-Null.is);
            good = g ∙ ap (λ u. list_any is_bad ts || is_bad (datum_of u)) w.in-Null.is
                ∙ ap (λ b. b || false) inv.good;
            low = subst (λ z. neg_ℤ (pos (2 ^ 63 * (i + 1))) ≤ℤ z) (sym t) b.0;
            high = subst (λ z. z ≤ℤ pos (2 ^ 63 * (i + 1))) (sym t) b.1;
          }
      | in-Num w ↦
          let n = w.in-Num.n in
          let f : FitsSigned w64 n = search rules in
          let t : new ≡ old +ℤ n = omega (
            arith,
            ints,
            w.total-is,
            w.from-total.ensures,
            f,
            inv.low,
            inv.high,
          ) in
          let b = wider old n i (omega (arith, ints, f)) (omega (arith, ints, f)) inv.low inv.high in
          record {
            sum = t ∙ ap (λ z. z +ℤ n) inv.sum
                ∙ sym (s ∙ ap (λ u. exact_sum ts +ℤ to_number (datum_of u)) w.in-Num.is);
            good = g ∙ ap (λ u. list_any is_bad ts || is_bad (datum_of u)) w.in-Num.is
                ∙ ap (λ b. b || false) inv.good;
            low = subst (λ z. neg_ℤ (pos (2 ^ 63 * (i + 1))) ≤ℤ z) (sym t) b.0;
            high = subst (λ z. z ≤ℤ pos (2 ^ 63 * (i + 1))) (sym t) b.1;
          }
    ]
