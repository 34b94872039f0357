-- States one after another, which may be any values.
use Rattle.std.proofs.Common.{◌≡◌, ℕ, ◌^◌, List, [], ◌∷◌, ◌++◌, map, Bool, true, false, cond, ◌||◌, refl, sym, ap, ◌∙◌, arith}
use Rattle.std.specs.Prelude.{ℤ, pos, ◌+ℤ◌, ◌*ℤ◌}
use Rattle.std.specs.List.{list_any}
use Rattle.std.proofs.lemmas.Int.{ints}
use Rattle.std.proofs.lemmas.List.{map-append}
use Rattle.aql_value.specs.Datum.{Datum, null}
use Rattle.aql_value.specs.Convert.{to_number, number_or_null}
use Rattle.aql_func.specs.Aggregates.{is_null, exact_sum, part_at, state_sum, join_counts, is_spoilt, join_sums}
use Rattle.aql_aggregate.specs.laws.Counts.{total, total_cons}
use Rattle.aql_aggregate.specs.laws.Totals.{any_append}
use Rattle.aql_aggregate.specs.Joined.{SumsJoin}
use Rattle.aql_aggregate.specs.declared.joining.JoinedSums.{JoinedSums}

-- the sum of the states' numbers, by their two parts
pub by_parts : (ts : List Datum) → total state_sum ts
    ≡ exact_sum (map (part_at (pos 2)) ts) *ℤ pos (2 ^ 63) +ℤ exact_sum (map (part_at (pos 3)) ts)
by_parts [] = omega (arith, ints)
by_parts (t ∷ ts) =
    let a : total state_sum (t ∷ ts) ≡ (to_number (part_at (pos 2) t) *ℤ pos (2 ^ 63) +ℤ to_number (part_at
    (pos 3) t)) +ℤ total state_sum ts = total_cons state_sum t ts in
    let b : exact_sum (map (part_at (pos 2)) (t ∷ ts)) ≡ to_number (part_at (pos 2) t) +ℤ exact_sum (map (part_at
    (pos 2)) ts) = total_cons to_number (part_at (pos 2) t) (map (part_at (pos 2)) ts) in
    let c : exact_sum (map (part_at (pos 3)) (t ∷ ts)) ≡ to_number (part_at (pos 3) t) +ℤ exact_sum (map (part_at
    (pos 3)) ts) = total_cons to_number (part_at (pos 3) t) (map (part_at (pos 3)) ts) in
    let d = by_parts ts in
    omega (arith, ints, a, b, c, d)

-- one more mark
pub one_marked : (p : Datum → Bool) (b d : Bool) (ts : List Datum) (t : Datum) → b ≡ list_any p ts → d ≡ p t
    → b || d ≡ list_any p (ts ++ t ∷ [])
one_marked p b d ts t h e = ap (λ x. x || d) h ∙ ap (λ x. list_any p ts || x) (e ∙ sym (or_false (p t)))
    ∙ sym (any_append p ts (t ∷ []))
  where
    or_false : (b : Bool) → b || false ≡ b
    or_false true = refl
    or_false false = refl

-- a value more among the parts of a place
pub part_more : (place : ℕ) (ts : List Datum) (t : Datum) → map (part_at (pos place)) (ts ++ t ∷ [])
    ≡ map (part_at (pos place)) ts ++ part_at (pos place) t ∷ []
part_more place ts t = map-append (part_at (pos place)) ts (t ∷ [])

-- whether the states are spoilt
pub spoilt_is : (s : JoinedSums) (ts : List Datum) (v : Datum) → SumsJoin s ts
    → v ≡ join_counts (map (part_at (pos 0)) ts) → is_null v || s.bad ≡ is_spoilt ts
spoilt_is s ts v h e = ap (λ v. is_null v || s.bad) e
    ∙ ap (λ b. is_null (join_counts (map (part_at (pos 0)) ts)) || b) h.bad

pub sums_value : (s : JoinedSums) (ts : List Datum) (v : Datum) (high low : ℤ) → is_spoilt ts ≡ false
    → high ≡ exact_sum (map (part_at (pos 2)) ts) → low ≡ exact_sum (map (part_at (pos 3)) ts)
    → v ≡ number_or_null (high *ℤ pos (2 ^ 63) +ℤ low) → v ≡ join_sums ts
sums_value s ts v high low b h l e = e
    ∙ ap (λ z. number_or_null (z *ℤ pos (2 ^ 63) +ℤ low)) h
    ∙ ap (λ z. number_or_null (exact_sum (map (part_at (pos 2)) ts) *ℤ pos (2 ^ 63) +ℤ z)) l
    ∙ ap number_or_null (sym (by_parts ts))
    ∙ sym (ap (λ b. cond b null (number_or_null (total state_sum ts))) b)
