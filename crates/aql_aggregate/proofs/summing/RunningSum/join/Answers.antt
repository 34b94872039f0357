use Rattle.std.proofs.Common.{◌≡◌, ◌++◌, ◌*◌, ◌<◌, ◌^◌, filter, length, sym, ap, subst, ◌∙◌, ◌||◌, length-append, arith}
use Rattle.std.specs.Prelude.{pos, neg_ℤ, ◌+ℤ◌, ◌*ℤ◌, ◌≤ℤ◌, FitsSigned}
use Rattle.std.specs.List.{list_any}
use Rattle.std.specs.Int.{w64, w128}
use Rattle.std.proofs.lemmas.Int.{ints}
use mir.Val.{to_z, of_z}
use Rattle.aql_value.specs.Convert.{to_number}
use Rattle.aql_value.specs.Truth.{truth}
use Rattle.aql_value.specs.View.{datum_of}
use Rattle.aql_func.specs.Arguments.{argument}
use Rattle.aql_func.specs.Aggregates.{is_bad, is_number, exact_sum}
use Rattle.aql_aggregate.specs.laws.Totals.{any_append}
use Rattle.aql_aggregate.specs.laws.Formed.{within}
use Rattle.aql_aggregate.specs.laws.Sums.{numbers_append, opened, four, item_at, numbers_of, total_joined}
use Rattle.aql_aggregate.proofs.summing.RunningSum.join.Goals as goal

pub returns-in_default-as_slice : goal.returns-in_default-as_slice
returns-in_default-as_slice c ts us h f e =
    let n = four c.as_slice.result.now c.in-List.items us c.as_slice.ensures (sym
    (ap datum_of c.in-List.is) ∙ e) in
    let m = c.in_default-as_slice.len_below in
    absurd (omega (arith, n, m))

pub returns-in_default-as_slice-2 : goal.returns-in_default-as_slice-2
returns-in_default-as_slice-2 c ts us h f e =
    let n = four c.as_slice.result.now c.in-List.items us c.as_slice.ensures (sym
    (ap datum_of c.in-List.is) ∙ e) in
    let m = c.in_default-as_slice.len_at_least in
    absurd (omega (arith, n, m))

pub returns : goal.returns
returns c ts us h f e =
    let vs = c.as_slice.result.now in
    let told = sym (ap datum_of c.in-List.is) ∙ e in
    let all = opened vs c.in-List.items us c.as_slice.ensures told in
    let n = four vs c.in-List.items us c.as_slice.ensures told in
    let before = c.args.self.now.total in
    let high = c.to_number.result in
    let low = c.to_number-2.result in
    let m = length-append ts us in
    let left : length (ts ++ us) < 2 ^ 63 → length ts < 2 ^ 63 = λ short. omega (arith, m, short) in
    let right : length (ts ++ us) < 2 ^ 63 → length us < 2 ^ 63 = λ short. omega (arith, m, short) in
    let sum = exact_sum (filter is_number us) in
    let numbers : length (ts ++ us) < 2 ^ 63
    → FitsSigned w64 high × FitsSigned w64 low × (high *ℤ pos (2 ^ 63) +ℤ low ≡ sum) = λ short.
    numbers_of us f (right short) high low
    (c.to_number.ensures ∙ ap to_number (item_at vs 2 c.high-item.result (omega (arith, n)) c.high-item.is
    ∙ ap (λ l. argument l 2) all))
    (c.to_number-2.ensures ∙ ap to_number (item_at vs 3 c.low-item.result (omega (arith, n)) c.low-item.is
    ∙ ap (λ l. argument l 3) all)) in
    let k = within us f in
    let added : length (ts ++ us) < 2 ^ 63 → to_z w128 (of_z w128 c.saturating_add-self.result)
    ≡ before +ℤ sum =
    λ short. (let x = numbers short in
    total_joined before high low c.from.result c.from-2.result c.saturating_add-self.result
    (length ts) (length us) (omega (arith, m, short)) (h.low (left short)) (h.high (left short))
    (rw x.2 k.0) (rw x.2 k.1) x.0 x.1 c.from.ensures c.from-2.ensures c.saturating_add-self.ensures
    ∙ ap (λ z. before +ℤ z) x.2) in
    let least : length (ts ++ us) < 2 ^ 63 → neg_ℤ (pos (2 ^ 63 * length (ts ++ us))) ≤ℤ
    (before +ℤ sum) = λ short.
    (let a = h.low (left short) in let b = k.0 in rw m (omega (arith, ints, a, b))) in
    let most : length (ts ++ us) < 2 ^ 63 → (before +ℤ sum) ≤ℤ pos (2 ^ 63 * length (ts ++ us)) = λ short.
    (let a = h.high (left short) in let b = k.1 in rw m (omega (arith, ints, a, b))) in
    record {
      counted = c.more-self.ensures ts us h.counted
          (item_at vs 0 c.count-item.result (omega (arith, n)) c.count-item.is ∙ ap (λ l. argument l 0) all);
      marked = ap (λ b. b || c.truthy.result) h.marked
          ∙ ap (λ b. list_any is_bad ts || b) (c.truthy.ensures
          ∙ ap truth (item_at vs 1 c.bad-item.result (omega (arith, n)) c.bad-item.is
          ∙ ap (λ l. argument l 1) all))
          ∙ sym (any_append is_bad ts us);
      added = λ short. added short ∙ ap (λ z. z +ℤ sum) (h.added (left short)) ∙ sym (numbers_append ts us);
      low = λ short. subst (λ z. neg_ℤ (pos (2 ^ 63 * length (ts ++ us))) ≤ℤ z) (sym (added short))
          (least short);
      high = λ short. subst (λ z. z ≤ℤ pos (2 ^ 63 * length (ts ++ us))) (sym (added short)) (most short);
    }
