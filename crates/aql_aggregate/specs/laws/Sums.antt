-- Sums of lists of members, and what a state of SUM tells.
use Rattle.std.proofs.Common.{◌≡◌, ℕ, zero, suc, ◌+◌, ◌*◌, ◌<◌, ◌≤◌, ◌^◌, List, [], ◌∷◌, ◌++◌, filter, length, get_or, Bool, true, false, cond, ◌||◌, Option, Some, None, ◌⊎◌, inl, inr, true≢false, sym, ap, ◌∙◌, arith}
use Rattle.std.specs.Prelude.{ℤ, pos, neg_ℤ, ◌+ℤ◌, ◌*ℤ◌, ◌≤ℤ◌, FitsSigned, is_some}
use Rattle.std.specs.Int.{w64, w128, saturate_signed}
use Rattle.std.specs.List.{list_any, AllByRecursion}
use Rattle.std.proofs.lemmas.Int.{ints}
use Rattle.std.proofs.lemmas.Bool.{cases_lt, le-ltb}
use Rattle.std.proofs.lemmas.List.Elements.{filter-append}
use mir.Val.{to_z, of_z}
use Rattle.aql_value.specs.declared.values.Value.{Value}
use Rattle.aql_value.specs.Datum.{Datum, null}
use Rattle.aql_value.specs.View.{datum_of, datums_in}
use Rattle.aql_value.specs.WellFormed.{WellFormed}
use Rattle.aql_value.specs.Convert.{to_number, number_or_null}
use Rattle.aql_value.specs.Contents.{list, elements}
use Rattle.aql_value.specs.laws.Lists.{datum_list-array_of}
use Rattle.aql_func.specs.Arguments.{argument}
use Rattle.aql_func.specs.Aggregates.{is_null, is_bad, is_number, count_of, exact_sum, sum_of, sum_state}
use Rattle.aql_func.specs.laws.Parts.{trees_counted}
use Rattle.aql_aggregate.specs.States.{Counts, Sums}
use Rattle.aql_aggregate.specs.declared.summing.RunningSum.{RunningSum}
use Rattle.aql_aggregate.specs.laws.Marks.{not_saturated}
use Rattle.aql_aggregate.specs.laws.Counts.{total_append, small}
use Rattle.aql_aggregate.specs.laws.Totals.{halves, numbers_alone}
use Rattle.aql_aggregate.specs.laws.Formed.{within, halves_fit}

pub numbers_append : (ts us : List Datum)
    → exact_sum (filter is_number (ts ++ us)) ≡ exact_sum (filter is_number ts) +ℤ exact_sum
    (filter is_number us)
numbers_append ts us = ap exact_sum (filter-append is_number ts us)
    ∙ total_append to_number (filter is_number ts) (filter is_number us)

-- the four parts of a state
pub opened : (vs : List Value) (items us : List Datum) → datums_in vs ≡ items → list items ≡ sum_state us
    → datums_in vs ≡ elements (sum_state us)
opened vs items us e h = e ∙ sym (datum_list-array_of items) ∙ ap elements h

pub four : (vs : List Value) (items us : List Datum) → datums_in vs ≡ items → list items ≡ sum_state us
    → length vs ≡ 4
four vs items us e h = sym (trees_counted vs) ∙ ap length (opened vs items us e h)

pub item_at : (vs : List Value) (n : ℕ) (v : Value) → n < length vs → v ≡ get_or vs n v
    → datum_of v ≡ argument (datums_in vs) n
item_at [] n v h e = absurd (omega (arith, h))
item_at (w ∷ vs) zero v h e = ap datum_of e
item_at (w ∷ vs) (suc n) v h e = item_at vs n v (omega (arith, h)) e

-- a state's two numbers, of as many members as are counted
pub numbers_of : (us : List Datum) → AllByRecursion WellFormed us → length us < 2 ^ 63
    → (high low : ℤ) → high ≡ to_number (argument (elements (sum_state us)) 2)
    → low ≡ to_number (argument (elements (sum_state us)) 3)
    → FitsSigned w64 high × FitsSigned w64 low × (high *ℤ pos (2 ^ 63) +ℤ low
    ≡ exact_sum (filter is_number us))
numbers_of us f short high low p q =
    let z = cond (is_null (count_of us)) (pos 0) (exact_sum (filter is_number us)) in
    let e : z ≡ exact_sum (filter is_number us) =
    ap (λ t. cond (is_null t) (pos 0) (exact_sum (filter is_number us))) (small (length us) short) in
    let k = within us f in
    let fit = halves_fit z (length us) short (rw e k.0) (rw e k.1) in
    (rw p fit.0, rw q fit.1, rw (p, q) (halves z ∙ e))

pub total_joined : (before high low first second sat : ℤ) (n k : ℕ) → n + k < 2 ^ 63
    → neg_ℤ (pos (2 ^ 63 * n)) ≤ℤ before → before ≤ℤ pos (2 ^ 63 * n)
    → neg_ℤ (pos (2 ^ 63 * k)) ≤ℤ (high *ℤ pos (2 ^ 63) +ℤ low)
    → (high *ℤ pos (2 ^ 63) +ℤ low) ≤ℤ pos (2 ^ 63 * k)
    → FitsSigned w64 high → FitsSigned w64 low
    → first ≡ to_z w64 (of_z w64 high) → second ≡ to_z w64 (of_z w64 low)
    → sat ≡ saturate_signed w128 (to_z w128 (of_z w128 before) +ℤ to_z w128 (of_z w128 (to_z w128 (of_z w128
    (to_z w128 (of_z w128 first) *ℤ pos (2 ^ 63))) +ℤ to_z w128 (of_z w128 second))))
    → to_z w128 (of_z w128 sat) ≡ before +ℤ (high *ℤ pos (2 ^ 63) +ℤ low)
total_joined before high low first second sat n k short a b c d f g p q e =
    let b1 : to_z w128 (of_z w128 before) ≡ before = omega (arith, ints, a, b, short) in
    let h1 : to_z w128 (of_z w128 first) ≡ high = omega (arith, ints, p, f) in
    let l1 : to_z w128 (of_z w128 second) ≡ low = omega (arith, ints, q, g) in
    let m1 : to_z w128 (of_z w128 (high *ℤ pos (2 ^ 63))) ≡ high *ℤ pos (2 ^ 63) = omega (arith, ints, f) in
    let s1 : to_z w128 (of_z w128 (high *ℤ pos (2 ^ 63) +ℤ low)) ≡ high *ℤ pos (2 ^ 63) +ℤ low =
    omega (arith, ints, f, g) in
    let sum : sat ≡ before +ℤ (high *ℤ pos (2 ^ 63) +ℤ low) = e
    ∙ ap (saturate_signed w128) (ap (λ z. z +ℤ to_z w128 (of_z w128 (to_z w128 (of_z w128
    (to_z w128 (of_z w128 first) *ℤ pos (2 ^ 63))) +ℤ to_z w128 (of_z w128 second)))) b1
    ∙ ap (λ z. before +ℤ to_z w128 (of_z w128 (to_z w128 (of_z w128 (z *ℤ pos (2 ^ 63)))
    +ℤ to_z w128 (of_z w128 second)))) h1
    ∙ ap (λ z. before +ℤ to_z w128 (of_z w128 (z +ℤ to_z w128 (of_z w128 second)))) m1
    ∙ ap (λ z. before +ℤ to_z w128 (of_z w128 (high *ℤ pos (2 ^ 63) +ℤ z))) l1
    ∙ ap (λ z. before +ℤ z) s1)
    ∙ not_saturated (before +ℤ (high *ℤ pos (2 ^ 63) +ℤ low)) (omega (arith, ints, a, c, short))
    (omega (arith, ints, b, d, short)) in
    omega (arith, ints, sum, a, b, c, d, short)

-- a count that is kept is in range
counted_short : (n : Option ℤ) (ts : List Datum) → Counts n ts → is_some n ≡ true → length ts < 2 ^ 63
counted_short n ts h k = by (cases_lt (length ts) (2 ^ 63))
  where
    by : (length ts < 2 ^ 63) ⊎ (2 ^ 63 ≤ length ts) → length ts < 2 ^ 63
    by (inl l) = l
    by (inr l) = absurd (true≢false (sym k ∙ ap is_some h
        ∙ ap (λ (b : Bool). is_some (cond b (Some (pos (length ts))) None)) (le-ltb _ _ l)))

pub value_is : (s : RunningSum) (ts : List Datum) (v : Datum) → Sums s ts → s.bad ≡ false
    → is_some s.count ≡ true → v ≡ number_or_null (to_z w128 (of_z w128 s.total)) → v ≡ sum_of ts
value_is s ts v h b c e =
    let short = counted_short s.count ts h.counted c in
    let low = h.low short in
    let high = h.high short in
    let whole : to_z w128 (of_z w128 s.total) ≡ s.total = omega (arith, ints, low, high, short) in
    let good : list_any is_bad ts ≡ false = sym h.marked ∙ b in
    e ∙ ap number_or_null (whole ∙ h.added short ∙ numbers_alone ts good)
    ∙ sym (ap (λ t. cond (is_null t || list_any is_bad ts) null (number_or_null (exact_sum ts)))
    (small (length ts) short) ∙ ap (λ b. cond b null (number_or_null (exact_sum ts))) good)
