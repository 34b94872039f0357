-- The states of members that are values of the program are such values.
use Rattle.std.proofs.Common.{◌≡◌, ℕ, ◌*◌, ◌<◌, ◌≤◌, ◌^◌, List, [], ◌∷◌, filter, length, Bool, true, false, cond, Option, Some, None, unwrap_or, option_map, sym, ap, subst, arith, ◌⊎◌, inl, inr}
use Rattle.std.specs.Prelude.{ℤ, pos, negsuc, neg_ℤ, ◌≤ℤ◌, FitsSigned}
use Rattle.std.specs.Int.{w64, int_div_euclid, int_rem_euclid}
use Rattle.std.specs.List.{AllByRecursion}
use Rattle.std.proofs.lemmas.Int.{ints}
use Rattle.std.proofs.lemmas.Bool.{cases_lt}
use Rattle.aql_value.specs.Datum.{Datum, null, boolean, number, text, array, object, array_of}
use Rattle.aql_value.specs.WellFormed.{WellFormed, ItemsWellFormed}
use Rattle.aql_value.specs.Contents.{is_below}
use Rattle.aql_value.specs.Convert.{to_number}
use Rattle.aql_func.specs.Lists.{distinct}
use Rattle.aql_func.specs.Aggregates.{Aggregate, count, sum, min, max, sorted_unique, count_distinct, state, sum_state, is_null, is_number, count_of, exact_sum, best, lesser, greater, at_most_one}
use Rattle.aql_aggregate.specs.laws.Counts.{total_cons, small, large}
use Rattle.aql_aggregate.specs.laws.Grouping.{all_distinct}

items_formed : (ts : List Datum) → AllByRecursion WellFormed ts → ItemsWellFormed (array_of ts)
items_formed [] h = tt
items_formed (t ∷ ts) h = (h.0, items_formed ts h.1)

count_formed : (ts : List Datum) → WellFormed (count_of ts)
count_formed ts = by (cases_lt (length ts) (2 ^ 63))
  where
    by : (length ts < 2 ^ 63) ⊎ (2 ^ 63 ≤ length ts) → WellFormed (count_of ts)
    by (inl l) = subst WellFormed (sym (small (length ts) l)) (omega (arith, ints, l))
    by (inr l) = subst WellFormed (sym (large (length ts) l)) tt

-- as many numbers of 64 bits as there are members
pub within : (ts : List Datum) → AllByRecursion WellFormed ts
    → (neg_ℤ (pos (2 ^ 63 * length ts)) ≤ℤ exact_sum (filter is_number ts))
    × (exact_sum (filter is_number ts) ≤ℤ pos (2 ^ 63 * length ts))
within [] h = (omega (arith, ints), omega (arith, ints))
within (null ∷ ts) h = let k = within ts h.1 in let low = k.0 in let high = k.1 in
    (omega (arith, ints, low), omega (arith, ints, high))
within (boolean b ∷ ts) h = let k = within ts h.1 in let low = k.0 in let high = k.1 in
    (omega (arith, ints, low), omega (arith, ints, high))
within (number z ∷ ts) h =
    let k = within ts h.1 in
    let low = k.0 in
    let high = k.1 in
    let f = h.0 in
    let e = total_cons to_number (number z) (filter is_number ts) in
    (omega (arith, ints, low, f, e), omega (arith, ints, high, f, e))
within (text s ∷ ts) h = let k = within ts h.1 in let low = k.0 in let high = k.1 in
    (omega (arith, ints, low), omega (arith, ints, high))
within (array us ∷ ts) h = let k = within ts h.1 in let low = k.0 in let high = k.1 in
    (omega (arith, ints, low), omega (arith, ints, high))
within (object fs ∷ ts) h = let k = within ts h.1 in let low = k.0 in let high = k.1 in
    (omega (arith, ints, low), omega (arith, ints, high))

pub halves_fit : (z : ℤ) (k : ℕ) → k < 2 ^ 63 → neg_ℤ (pos (2 ^ 63 * k)) ≤ℤ z → z ≤ℤ pos (2 ^ 63 * k)
    → FitsSigned w64 (int_div_euclid z (pos (2 ^ 63))) × FitsSigned w64 (int_rem_euclid z (pos (2 ^ 63)))
halves_fit (pos n) k l low high = (omega (arith, ints, l, high), omega (arith, ints))
halves_fit (negsuc n) k l low high = (omega (arith, ints, l, low), omega (arith, ints))

sum_formed : (ts : List Datum) → AllByRecursion WellFormed ts → WellFormed (sum_state ts)
sum_formed ts h = by (cases_lt (length ts) (2 ^ 63))
  where
    by : (length ts < 2 ^ 63) ⊎ (2 ^ 63 ≤ length ts) → WellFormed (sum_state ts)
    by (inl l) =
        let z = cond (is_null (count_of ts)) (pos 0) (exact_sum (filter is_number ts)) in
        let e : z ≡ exact_sum (filter is_number ts) =
        ap (λ t. cond (is_null t) (pos 0) (exact_sum (filter is_number ts))) (small (length ts) l) in
        let k = within ts h in
        let f = halves_fit z (length ts) l (rw e k.0) (rw e k.1) in
        (count_formed ts, (tt, (f.0, (f.1, tt))))
    by (inr l) =
        let z = cond (is_null (count_of ts)) (pos 0) (exact_sum (filter is_number ts)) in
        let e : z ≡ pos 0 = ap (λ t. cond (is_null t) (pos 0) (exact_sum (filter is_number ts))) (large
        (length ts) l) in
        let f = halves_fit z 0 (omega arith) (rw e (omega (arith, ints))) (rw e (omega (arith, ints))) in
        (count_formed ts, (tt, (f.0, (f.1, tt))))

abbrev Formed : Option Datum → Type 0
Formed None = Unit {0}
Formed (Some t) = WellFormed t

module _ (pick : Datum → Datum → Datum)
    (one : (t u : Datum) → WellFormed t → WellFormed u → WellFormed (pick t u)) where
  preferred : (t : Datum) (b : Bool) (o : Option Datum) → WellFormed t → Formed o
      → Formed (cond b o (Some (unwrap_or (option_map (pick t) o) t)))
  preferred t true o h k = k
  preferred t false None h k = h
  preferred t false (Some u) h k = one t u h k

  best_formed : (ts : List Datum) → AllByRecursion WellFormed ts → Formed (best pick ts)
  best_formed [] h = tt
  best_formed (t ∷ ts) h = preferred t (is_null t) (best pick ts) h.0 (best_formed ts h.1)

one_of_two : (b : Bool) (t u : Datum) → WellFormed t → WellFormed u → WellFormed (cond b t u)
one_of_two true t u h k = h
one_of_two false t u h k = k

one_formed : (o : Option Datum) → Formed o → WellFormed (at_most_one o)
one_formed None h = tt
one_formed (Some t) h = (h, tt)

pub states_formed : (kind : Aggregate) (ts : List Datum) → AllByRecursion WellFormed ts
    → WellFormed (state kind ts)
states_formed count ts h = count_formed ts
states_formed sum ts h = sum_formed ts h
states_formed min ts h = one_formed (best lesser ts)
    (best_formed lesser (λ t u p q. one_of_two (is_below u t) u t q p) ts h)
states_formed max ts h = one_formed (best greater ts)
    (best_formed greater (λ t u p q. one_of_two (is_below t u) u t q p) ts h)
states_formed sorted_unique ts h = items_formed (distinct ts) (all_distinct WellFormed ts h)
states_formed count_distinct ts h = items_formed (distinct ts) (all_distinct WellFormed ts h)
