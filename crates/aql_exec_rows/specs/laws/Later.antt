-- What one accumulator keeps of two lists of members: whatever members come later, both lists have the same
-- aggregate.
use Rattle.std.proofs.Common.{◌≡◌, ℕ, ◌+◌, ◌<◌, ◌≤◌, ◌^◌, ◌⊎◌, inl, inr, List, [], ◌∷◌, ◌++◌, length, Bool, true, false, cond, ◌||◌, Option, Some, None, unwrap_or, refl, sym, ap, ◌∙◌, append_assoc, length-append, arith, true≢false}
use Rattle.std.specs.Prelude.{ℤ, pos, nat_lt, ◌+ℤ◌, is_some}
use Rattle.std.specs.List.{list_any}
use Rattle.std.proofs.lemmas.Int.{ints}
use Rattle.std.proofs.lemmas.List.{append-nil}
use Rattle.aql_value.specs.Datum.{Datum, null, number}
use Rattle.aql_value.specs.Contents.{list}
use Rattle.aql_value.specs.Convert.{in_range, number_or_null, to_number}
use Rattle.aql_func.specs.Lists.{firsts, add, sort_values}
use Rattle.aql_func.specs.Aggregates.{Aggregate, count, sum, min, max, sorted_unique, count_distinct, aggregate, count_of, sum_of, exact_sum, is_null, is_bad, best, lesser, greater}
use Rattle.aql_func.specs.laws.Firsts.{firsts_push}
use Rattle.aql_func.specs.laws.Sums.{sum_push, bad_push}
use Rattle.aql_aggregate.specs.declared.accumulator.Accumulator.{Accumulator}
use Rattle.aql_aggregate.specs.declared.accumulator.Accumulator.TheVariants as code
use Rattle.aql_aggregate.specs.declared.summing.RunningSum.{RunningSum}
use Rattle.aql_aggregate.specs.States.{Counts, Sums, Keeps, better_if}
use Rattle.aql_aggregate.specs.laws.Best.{least_more, greatest_more}
use Rattle.aql_aggregate.specs.laws.Totals.{numbers_alone}

-- what grows by one member at a time is the same of two lists, where it was the same before
module _ {X : Type 0} (f : List Datum → X) (g : X → Datum → X)
    (grows : (ts : List Datum) (t : Datum) → f (ts ++ t ∷ []) ≡ g (f ts) t) where
  pub same_grown : (us ts ts' : List Datum) → f ts ≡ f ts' → f (ts ++ us) ≡ f (ts' ++ us)
  same_grown [] ts ts' e = ap f (append-nil ts) ∙ e ∙ sym (ap f (append-nil ts'))
  same_grown (u ∷ us) ts ts' e = sym (ap f (append_assoc ts (u ∷ []) us))
      ∙ same_grown us (ts ++ u ∷ []) (ts' ++ u ∷ []) (grows ts u ∙ ap (λ x. g x u) e ∙ sym (grows ts' u))
      ∙ ap f (append_assoc ts' (u ∷ []) us)

-- ---- counts

abbrev number_in : Option ℤ → ℤ
number_in n = unwrap_or n (pos 0)

some_not_none : {X : Type 0} (x : X) → Some x ≡ None → ⊥
some_not_none x e = true≢false (ap is_some e)

abbrev pub Alike : List Datum → List Datum → Type 0
Alike ts ts' = (length ts ≡ length ts') ⊎ ((2 ^ 63 ≤ length ts) × (2 ^ 63 ≤ length ts'))

pub alike : (n : Option ℤ) (ts ts' : List Datum) → Counts n ts → Counts n ts' → Alike ts ts'
alike n ts ts' h h' = by (nat_lt (length ts) (2 ^ 63)) refl (nat_lt (length ts') (2 ^ 63)) refl
  where
    by : (b : Bool) → nat_lt (length ts) (2 ^ 63) ≡ b → (d : Bool) → nat_lt (length ts') (2 ^ 63) ≡ d
        → Alike ts ts'
    by true p true q =
        let e : Some (pos (length ts)) ≡ Some (pos (length ts')) = sym (rw p at h) ∙ (rw q at h') in
        let z : pos (length ts) ≡ pos (length ts') = ap number_in e in
        inl (omega (arith, ints, z))
    by true p false q = absurd (some_not_none (pos (length ts)) (sym (rw p at h) ∙ (rw q at h')))
    by false p true q = absurd (some_not_none (pos (length ts')) (sym (rw q at h') ∙ (rw p at h)))
    by false p false q = inr (grind (arith, p), grind (arith, q))

out_of_range : (n : ℕ) → 2 ^ 63 ≤ n → in_range (pos n) ≡ false
out_of_range n h = grind (arith, ints, h)

pub lost : (ts us : List Datum) → 2 ^ 63 ≤ length ts → count_of (ts ++ us) ≡ null
lost ts us h =
    let n = length-append ts us in
    ap (λ b. cond b (number (pos (length (ts ++ us)))) null)
    (out_of_range (length (ts ++ us)) (omega (arith, n, h)))

longer : (ts ts' us : List Datum) → length ts ≡ length ts' → length (ts ++ us) ≡ length (ts' ++ us)
longer ts ts' us e = length-append ts us ∙ ap (λ n. n + length us) e ∙ sym (length-append ts' us)

pub same_count : (n : Option ℤ) (ts ts' us : List Datum) → Counts n ts → Counts n ts'
    → count_of (ts ++ us) ≡ count_of (ts' ++ us)
same_count n ts ts' us h h' = by (alike n ts ts' h h')
  where
    by : Alike ts ts' → count_of (ts ++ us) ≡ count_of (ts' ++ us)
    by (inl e) = ap (λ n. number_or_null (pos n)) (longer ts ts' us e)
    by (inr l) = lost ts us l.0 ∙ sym (lost ts' us l.1)

-- ---- sums

abbrev summed : Datum → Bool → ℤ → Datum
summed size bad z = cond (is_null size || bad) null (number_or_null z)

spoilt : (size : Datum) (z : ℤ) → summed size true z ≡ null
spoilt size z = by (is_null size)
  where
    by : (b : Bool) → cond (b || true) null (number_or_null z) ≡ null
    by true = refl
    by false = refl

none_summed : (ts us : List Datum) → 2 ^ 63 ≤ length ts → sum_of (ts ++ us) ≡ null
none_summed ts us h =
    ap (λ size. summed size (list_any is_bad (ts ++ us)) (exact_sum (ts ++ us))) (lost ts us h)

marked : (s : RunningSum) (ts us : List Datum) → Sums s ts → s.bad ≡ true → sum_of (ts ++ us) ≡ null
marked s ts us h e =
    let bad : list_any is_bad ts ≡ true = sym h.marked ∙ e in
    let more : list_any is_bad (ts ++ us) ≡ true =
    same_grown (list_any is_bad) (λ b t. b || is_bad t) bad_push us ts ts refl ∙ spread us ts bad in
    ap (λ b. summed (count_of (ts ++ us)) b (exact_sum (ts ++ us))) more
    ∙ spoilt (count_of (ts ++ us)) (exact_sum (ts ++ us))
  where
    spread : (us ts : List Datum) → list_any is_bad ts ≡ true → list_any is_bad (ts ++ us) ≡ true
    spread [] ts e = ap (list_any is_bad) (append-nil ts) ∙ e
    spread (u ∷ us) ts e = sym (ap (list_any is_bad) (append_assoc ts (u ∷ []) us))
        ∙ spread us (ts ++ u ∷ []) (bad_push ts u ∙ ap (λ b. b || is_bad u) e)

same_sum : (s : RunningSum) (ts ts' us : List Datum) → Sums s ts → Sums s ts'
    → sum_of (ts ++ us) ≡ sum_of (ts' ++ us)
same_sum s ts ts' us h h' = by (alike s.count ts ts' h.counted h'.counted)
  where
    short : length ts ≡ length ts' → (b : Bool) → s.bad ≡ b → (d : Bool) → nat_lt (length ts) (2 ^ 63) ≡ d
        → sum_of (ts ++ us) ≡ sum_of (ts' ++ us)
    short e true p d q = marked s ts us h p ∙ sym (marked s ts' us h' p)
    short e false p false q =
        let l : 2 ^ 63 ≤ length ts = grind (arith, q) in
        none_summed ts us l ∙ sym (none_summed ts' us (omega (arith, l, e)))
    short e false p true q =
        let l : length ts < 2 ^ 63 = grind (arith, q) in
        let z : exact_sum ts ≡ exact_sum ts' = sym (numbers_alone ts (sym h.marked ∙ p)) ∙ sym (h.added l)
        ∙ h'.added (omega (arith, l, e)) ∙ numbers_alone ts' (sym h'.marked ∙ p) in
        let counts = same_count s.count ts ts' us h.counted h'.counted in
        let bad = same_grown (list_any is_bad) (λ b t. b || is_bad t) bad_push us ts ts'
        (sym h.marked ∙ h'.marked) in
        let sums = same_grown exact_sum (λ z t. z +ℤ to_number t) sum_push us ts ts' z in
        ap (λ size. summed size (list_any is_bad (ts ++ us)) (exact_sum (ts ++ us))) counts
        ∙ ap (λ b. summed (count_of (ts' ++ us)) b (exact_sum (ts ++ us))) bad
        ∙ ap (λ z. summed (count_of (ts' ++ us)) (list_any is_bad (ts' ++ us)) z) sums

    by : Alike ts ts' → sum_of (ts ++ us) ≡ sum_of (ts' ++ us)
    by (inl e) = short e s.bad refl (nat_lt (length ts) (2 ^ 63)) refl
    by (inr l) = none_summed ts us l.0 ∙ sym (none_summed ts' us l.1)

-- ---- the others

pub same_firsts : (us ts ts' : List Datum) → firsts ts ≡ firsts ts' → firsts (ts ++ us) ≡ firsts (ts' ++ us)
same_firsts = same_grown firsts (add true) firsts_push

pub same_least : (us ts ts' : List Datum) → best lesser ts ≡ best lesser ts'
    → best lesser (ts ++ us) ≡ best lesser (ts' ++ us)
same_least = same_grown (best lesser) (λ o t. better_if lesser (is_null t) o t)
    (λ ts t. sym (least_more (best lesser ts) ts t refl))

pub same_greatest : (us ts ts' : List Datum) → best greater ts ≡ best greater ts'
    → best greater (ts ++ us) ≡ best greater (ts' ++ us)
same_greatest = same_grown (best greater) (λ o t. better_if greater (is_null t) o t)
    (λ ts t. sym (greatest_more (best greater ts) ts t refl))

pub same_keys : (us ts ts' : List Datum) → firsts ts ≡ firsts ts' → firsts (ts ++ us) ≡ firsts (ts' ++ us)
same_keys = same_firsts

pub same_later : (a : Accumulator) (kind : Aggregate) (ts ts' us : List Datum) → Keeps a kind ts
    → Keeps a kind ts' → aggregate kind (ts ++ us) ≡ aggregate kind (ts' ++ us)
same_later (code.Count n) count ts ts' us h h' = same_count n ts ts' us h h'
same_later (code.Sum s) sum ts ts' us h h' = same_sum s ts ts' us h h'
same_later (code.Min v) min ts ts' us h h' =
    ap (λ o. unwrap_or o null) (same_least us ts ts' (sym h ∙ h'))
same_later (code.Max v) max ts ts' us h h' =
    ap (λ o. unwrap_or o null) (same_greatest us ts ts' (sym h ∙ h'))
same_later (code.SortedUnique set) sorted_unique ts ts' us h h' =
    ap (λ ks. list (sort_values ks)) (same_firsts us ts ts' (sym h ∙ h'))
same_later (code.CountDistinct set) count_distinct ts ts' us h h' =
    ap (λ ks. count_of (sort_values ks)) (same_firsts us ts ts' (sym h ∙ h'))
same_later (code.Count n) sum ts ts' us h h' = absurd h
same_later (code.Count n) min ts ts' us h h' = absurd h
same_later (code.Count n) max ts ts' us h h' = absurd h
same_later (code.Count n) sorted_unique ts ts' us h h' = absurd h
same_later (code.Count n) count_distinct ts ts' us h h' = absurd h
same_later (code.Sum s) count ts ts' us h h' = absurd h
same_later (code.Sum s) min ts ts' us h h' = absurd h
same_later (code.Sum s) max ts ts' us h h' = absurd h
same_later (code.Sum s) sorted_unique ts ts' us h h' = absurd h
same_later (code.Sum s) count_distinct ts ts' us h h' = absurd h
same_later (code.Min v) count ts ts' us h h' = absurd h
same_later (code.Min v) sum ts ts' us h h' = absurd h
same_later (code.Min v) max ts ts' us h h' = absurd h
same_later (code.Min v) sorted_unique ts ts' us h h' = absurd h
same_later (code.Min v) count_distinct ts ts' us h h' = absurd h
same_later (code.Max v) count ts ts' us h h' = absurd h
same_later (code.Max v) sum ts ts' us h h' = absurd h
same_later (code.Max v) min ts ts' us h h' = absurd h
same_later (code.Max v) sorted_unique ts ts' us h h' = absurd h
same_later (code.Max v) count_distinct ts ts' us h h' = absurd h
same_later (code.SortedUnique set) count ts ts' us h h' = absurd h
same_later (code.SortedUnique set) sum ts ts' us h h' = absurd h
same_later (code.SortedUnique set) min ts ts' us h h' = absurd h
same_later (code.SortedUnique set) max ts ts' us h h' = absurd h
same_later (code.SortedUnique set) count_distinct ts ts' us h h' = absurd h
same_later (code.CountDistinct set) count ts ts' us h h' = absurd h
same_later (code.CountDistinct set) sum ts ts' us h h' = absurd h
same_later (code.CountDistinct set) min ts ts' us h h' = absurd h
same_later (code.CountDistinct set) max ts ts' us h h' = absurd h
same_later (code.CountDistinct set) sorted_unique ts ts' us h h' = absurd h
