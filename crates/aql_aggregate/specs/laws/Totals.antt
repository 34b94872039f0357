-- The states of SUM, joined, are the sum of all members.
use Rattle.std.proofs.Common.{◌≡◌, ◌^◌, List, [], ◌∷◌, ◌++◌, map, filter, Bool, true, false, cond, ◌||◌, refl, sym, ap, ◌∙◌, arith}
use Rattle.std.specs.Prelude.{ℤ, pos, negsuc, ◌+ℤ◌, ◌*ℤ◌}
use Rattle.std.specs.Int.{int_div_euclid, int_rem_euclid}
use Rattle.std.specs.List.{list_any}
use Rattle.std.proofs.lemmas.Int.{ints}
use Rattle.std.proofs.lemmas.Nat.{div-add-mod'}
use Rattle.aql_value.specs.Datum.{Datum, null, boolean, number, text, array, object}
use Rattle.aql_value.specs.Truth.{truth}
use Rattle.aql_value.specs.Convert.{to_number, number_or_null}
use Rattle.aql_func.specs.Aggregates.{is_null, is_number, is_bad, count_of, exact_sum, sum_of, sum_state, part_at, state_sum, join_counts, is_spoilt, join_sums}
use Rattle.aql_aggregate.specs.Theorems.{all_of}
use Rattle.aql_aggregate.specs.laws.Counts.{total, total_cons, total_append, counts_joined}

-- high * 2 ^ 63 + low is the number again
pub halves : (z : ℤ) → int_div_euclid z (pos (2 ^ 63)) *ℤ pos (2 ^ 63) +ℤ int_rem_euclid z (pos (2 ^ 63)) ≡ z
halves (pos n) = let a = div-add-mod' n (2 ^ 63) in omega (arith, ints, a)
halves (negsuc n) =
    let a = div-add-mod' n (2 ^ 63) in
    omega (arith, ints, a)

-- without a bad value all but the numbers are null, and count nothing
pub numbers_alone : (ts : List Datum) → list_any is_bad ts ≡ false → exact_sum (filter is_number ts)
    ≡ exact_sum ts
numbers_alone [] h = refl
numbers_alone (null ∷ ts) h =
    numbers_alone ts h ∙ sym (total_cons to_number null ts ∙ omega (arith, ints))
numbers_alone (boolean b ∷ ts) h = absurd (let e = h in cc)
numbers_alone (number z ∷ ts) h = total_cons to_number (number z) (filter is_number ts)
    ∙ ap (λ s. z +ℤ s) (numbers_alone ts h) ∙ sym (total_cons to_number (number z) ts)
numbers_alone (text s ∷ ts) h = absurd (let e = h in cc)
numbers_alone (array us ∷ ts) h = absurd (let e = h in cc)
numbers_alone (object fs ∷ ts) h = absurd (let e = h in cc)

pub any_append : {X : Type 0} (p : X → Bool) (xs ys : List X) → list_any p (xs ++ ys)
    ≡ list_any p xs || list_any p ys
any_append p [] ys = refl
any_append p (x ∷ xs) ys = ap (λ b. p x || b) (any_append p xs ys)
    ∙ grouped (p x) (list_any p xs) (list_any p ys)
  where
    grouped : (a b c : Bool) → a || (b || c) ≡ (a || b) || c
    grouped true b c = refl
    grouped false b c = refl

pub first_false : (a b : Bool) → a || b ≡ false → a ≡ false
first_false true b h = h
first_false false b h = refl

pub second_false : (a b : Bool) → a || b ≡ false → b ≡ false
second_false true b h = absurd (cc)
second_false false b h = h

counts_in : (parts : List (List Datum)) → map (part_at (pos 0)) (map sum_state parts) ≡ map count_of parts
counts_in [] = refl
counts_in (ts ∷ parts) = ap (λ rest. count_of ts ∷ rest) (counts_in parts)

marks_in : (parts : List (List Datum)) → list_any (λ s. truth (part_at (pos 1) s)) (map sum_state parts)
    ≡ list_any is_bad (all_of parts)
marks_in [] = refl
marks_in (ts ∷ parts) = ap (λ b. list_any is_bad ts || b) (marks_in parts)
    ∙ sym (any_append is_bad ts (all_of parts))

-- where no count is lost and no value is bad the states' numbers add up to the sum
numbers_in : (parts : List (List Datum)) → list_any is_null (map count_of parts) ≡ false
    → list_any is_bad (all_of parts) ≡ false
    → total state_sum (map sum_state parts) ≡ exact_sum (all_of parts)
numbers_in [] c h = refl
numbers_in (ts ∷ parts) c h =
    let b = sym (any_append is_bad ts (all_of parts)) ∙ h in
    let kept : state_sum (sum_state ts) ≡ exact_sum ts =
    halves (cond (is_null (count_of ts)) (pos 0) (exact_sum (filter is_number ts)))
    ∙ ap (λ n. cond n (pos 0) (exact_sum (filter is_number ts))) (first_false _ _ c)
    ∙ numbers_alone ts (first_false _ _ b) in
    total_cons state_sum (sum_state ts) (map sum_state parts)
    ∙ ap (λ z. z +ℤ total state_sum (map sum_state parts)) kept
    ∙ ap (λ z. exact_sum ts +ℤ z) (numbers_in parts (second_false _ _ c) (second_false _ _ b))
    ∙ sym (total_append to_number ts (all_of parts))

none_lost : (counts : List Datum) → is_null (join_counts counts) ≡ false → list_any is_null counts ≡ false
none_lost counts h = by (list_any is_null counts) h
  where
    by : (b : Bool) → is_null (cond b null (number_or_null (exact_sum counts))) ≡ false → b ≡ false
    by true e = absurd (cc)
    by false e = refl

spoilt_alike : (parts : List (List Datum)) → is_spoilt (map sum_state parts)
    ≡ is_null (count_of (all_of parts)) || list_any is_bad (all_of parts)
spoilt_alike parts =
    ap (λ cs. is_null (join_counts cs) || list_any (λ s. truth (part_at (pos 1) s)) (map sum_state parts))
    (counts_in parts)
    ∙ ap (λ t. is_null t || list_any (λ s. truth (part_at (pos 1) s)) (map sum_state parts))
    (counts_joined parts)
    ∙ ap (λ b. is_null (count_of (all_of parts)) || b) (marks_in parts)

pub sums_joined : (parts : List (List Datum)) → join_sums (map sum_state parts) ≡ sum_of (all_of parts)
sums_joined parts =
    ap (λ b. cond b null (number_or_null (total state_sum (map sum_state parts)))) (spoilt_alike parts)
    ∙ by (is_null (count_of (all_of parts)) || list_any is_bad (all_of parts)) refl
  where
    by : (b : Bool) → is_null (count_of (all_of parts)) || list_any is_bad (all_of parts) ≡ b
        → cond b null (number_or_null (total state_sum (map sum_state parts)))
        ≡ cond b null (number_or_null (exact_sum (all_of parts)))
    by true e = refl
    by false e = ap number_or_null (numbers_in parts
        (none_lost (map count_of parts) (ap is_null (counts_joined parts)
        ∙ first_false _ _ e)) (second_false _ _ e))
