use Rattle.std.proofs.Common.{◌≡◌, ◌<◌, ◌^◌, ◌*◌, ◌+◌, ◌∷◌, [], ◌++◌, filter, length, ◌||◌, ap, sym, subst, ◌∙◌, arith, rules, length-append}
use Rattle.std.specs.Prelude.{pos, neg_ℤ, ◌+ℤ◌, ◌≤ℤ◌, FitsSigned}
use Rattle.std.specs.List.{list_any}
use Rattle.std.specs.Int.{w64, w128, saturate_signed}
use mir.Val.{to_z, of_z}
use Rattle.std.proofs.lemmas.Int.{ints}
use Rattle.aql_value.specs.View.{datum_of}
use Rattle.aql_func.specs.Aggregates.{is_bad, is_number, exact_sum}
use Rattle.aql_aggregate.specs.laws.Sums.{numbers_append}
use Rattle.aql_func.specs.laws.Sums.{bad_push, wider}
use Rattle.aql_aggregate.specs.laws.Marks.{unmarked, not_saturated}
use Rattle.aql_aggregate.proofs.summing.RunningSum.add.Goals as goal

pub returns-in-Num : goal.returns-in-Num
returns-in-Num c ts h =
    let n = c.in-Num.n in
    let t = datum_of c.args.value.now in
    let before = c.args.self.now.total in
    let after = to_z w128 (of_z w128 c.saturating_add-self.result) in
    let is = ap datum_of c.in-Num.is in
    let m = length-append ts (t ∷ []) in
    let below : length (ts ++ t ∷ []) < 2 ^ 63 → length ts < 2 ^ 63 = λ short. omega (arith, m, short) in
    let g = bad_push ts t ∙ ap (λ u. list_any is_bad ts || is_bad u) is in
    let f : FitsSigned w64 n = search rules in
    let added : length ts < 2 ^ 63 → after ≡ before +ℤ n = λ short.
    (let low = h.low short in let high = h.high short in
    let first : to_z w128 (of_z w128 before) ≡ before = omega (arith, ints, low, high, short) in
    let second : to_z w128 (of_z w128 c.from.result) ≡ n = omega (arith, ints, c.from.ensures, f) in
    let sum : c.saturating_add-self.result ≡ before +ℤ n = c.saturating_add-self.ensures
    ∙ ap (saturate_signed w128) (ap (λ z. z +ℤ to_z w128 (of_z w128 c.from.result)) first
    ∙ ap (λ z. before +ℤ z) second)
    ∙ not_saturated (before +ℤ n) (omega (arith, ints, low, high, short, f))
    (omega (arith, ints, low, high, short, f)) in
    omega (arith, ints, sum, low, high, short, f)) in
    let bounds : length ts < 2 ^ 63 → (neg_ℤ (pos (2 ^ 63 * (length ts + 1))) ≤ℤ (before +ℤ n))
    × ((before +ℤ n) ≤ℤ pos (2 ^ 63 * (length ts + 1))) = λ short.
    wider before n (length ts) (omega (arith, ints, f)) (omega (arith, ints, f)) (h.low short)
    (h.high short) in
    record {
      counted = c.one_more-self.ensures ts t h.counted;
      marked = h.marked ∙ sym (g ∙ unmarked (list_any is_bad ts));
      added = λ short. added (below short)
          ∙ ap (λ z. z +ℤ n) (h.added (below short))
          ∙ sym (numbers_append ts (t ∷ []) ∙ ap (λ u. exact_sum (filter is_number ts)
          +ℤ exact_sum (filter is_number (u ∷ []))) is ∙ omega (arith, ints));
      low = λ short. subst (λ z. neg_ℤ (pos (2 ^ 63 * length (ts ++ t ∷ []))) ≤ℤ z)
          (sym (added (below short))) (rw m (bounds (below short)).0);
      high = λ short. subst (λ z. z ≤ℤ pos (2 ^ 63 * length (ts ++ t ∷ [])))
          (sym (added (below short))) (rw m (bounds (below short)).1);
    }
