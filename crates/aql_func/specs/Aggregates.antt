-- The aggregates of COLLECT (the chapter of the AQL manual on COLLECT): what each is of the list of its
-- members' values, as a whole; what a part of the members hands on as its state; and the value from the
-- states of all parts.
use Rattle.std.specs.Prelude.{ℕ, ℤ, pos, ◌+ℤ◌, ◌*ℤ◌, ◌^◌, List, [], ◌∷◌, Bool, true, false, cond, not, ◌||◌, filter, flat_map, map, length, codes, fold, Option, Some, None, unwrap_or, option_map, find}
use Rattle.std.specs.Int.{int_div_euclid, int_rem_euclid}
use Rattle.std.specs.List.{list_any}
use Rattle.std.specs.Str.{str_eq_ignore_ascii_case}
use Rattle.aql_value.specs.Datum.{Datum, null, boolean, number}
use Rattle.aql_value.specs.Contents.{list, elements, at_index, is_below}
use Rattle.aql_value.specs.Convert.{number_or_null, to_number}
use Rattle.aql_value.specs.Truth.{truth}
use Rattle.aql_func.specs.Lists.{distinct}

pub data Aggregate : Type 0 where
  count : Aggregate
  sum : Aggregate
  min : Aggregate
  max : Aggregate
  sorted_unique : Aggregate
  count_distinct : Aggregate

abbrev pub aggregate_names : List (List ℕ × Aggregate)
aggregate_names =
    (codes "LENGTH", count) ∷ (codes "COUNT", count) ∷ (codes "SUM", sum)
    ∷ (codes "MIN", min) ∷ (codes "MAX", max)
    ∷ (codes "SORTED_UNIQUE", sorted_unique) ∷ (codes "COUNT_DISTINCT", count_distinct) ∷ []

-- the aggregate of a name, in any letter case
abbrev pub aggregate_named : List ℕ → Option Aggregate
aggregate_named name = option_map (λ (entry : List ℕ × Aggregate). entry.1)
    (find (λ (entry : List ℕ × Aggregate). str_eq_ignore_ascii_case entry.0 name) aggregate_names)

abbrev pub is_null : Datum → Bool
is_null null = true
is_null t = false

abbrev pub is_number : Datum → Bool
is_number (number z) = true
is_number t = false

-- how many; null for 2 ^ 63 members or more
abbrev pub count_of : List Datum → Datum
count_of ts = number_or_null (pos (length ts))

abbrev pub without_null : List Datum → List Datum
without_null ts = filter (λ t. not (is_null t)) ts

-- neither null nor a number
abbrev pub is_bad : Datum → Bool
is_bad t = not (is_null t || is_number t)

-- the sum of all as numbers, where null counts nothing
abbrev pub exact_sum : List Datum → ℤ
exact_sum ts = fold (λ z t. z +ℤ to_number t) (pos 0) ts

-- null where a value is bad, and where the sum or the number of members is out of range
abbrev pub sum_of : List Datum → Datum
sum_of ts = cond (is_null (count_of ts) || list_any is_bad ts) null (number_or_null (exact_sum ts))

abbrev pub lesser : Datum → Datum → Datum
lesser t u = cond (is_below u t) u t

abbrev pub greater : Datum → Datum → Datum
greater t u = cond (is_below t u) u t

-- t, or what `pick` prefers of it and the best of others; null counts nothing
abbrev pub prefer : (Datum → Datum → Datum) → Datum → Option Datum → Option Datum
prefer pick t others = cond (is_null t) others (Some (unwrap_or (option_map (pick t) others) t))

-- the one that `pick` prefers to all others, among those that aren't null
abbrev pub best : (Datum → Datum → Datum) → List Datum → Option Datum
best pick [] = None
best pick (t ∷ ts) = prefer pick t (best pick ts)

-- the value of an aggregate over the values of all members
abbrev pub aggregate : Aggregate → List Datum → Datum
aggregate count ts = count_of ts
aggregate sum ts = sum_of ts
aggregate min ts = unwrap_or (best lesser ts) null
aggregate max ts = unwrap_or (best greater ts) null
aggregate sorted_unique ts = list (distinct ts)
aggregate count_distinct ts = count_of (distinct ts)

-- the array of one value, or of none
abbrev pub at_most_one : Option Datum → Datum
at_most_one None = list []
at_most_one (Some t) = list (t ∷ [])

-- [count, bad, high, low], where the sum of the numbers is high * 2 ^ 63 + low
abbrev pub sum_state : List Datum → Datum
sum_state ts = let z = cond (is_null (count_of ts)) (pos 0) (exact_sum (filter is_number ts)) in
    list (count_of ts ∷ boolean (list_any is_bad ts)
    ∷ number (int_div_euclid z (pos (2 ^ 63))) ∷ number (int_rem_euclid z (pos (2 ^ 63))) ∷ [])

-- what a part of the members hands on
abbrev pub state : Aggregate → List Datum → Datum
state count ts = count_of ts
state sum ts = sum_state ts
state min ts = at_most_one (best lesser ts)
state max ts = at_most_one (best greater ts)
state sorted_unique ts = list (distinct ts)
state count_distinct ts = list (distinct ts)

-- the sum of the states' counts, null where one of them is null
abbrev pub join_counts : List Datum → Datum
join_counts ts = cond (list_any is_null ts) null (number_or_null (exact_sum ts))

-- the part of a state of SUM at a place
abbrev pub part_at : ℤ → Datum → Datum
part_at place state = at_index (elements state) place

-- the number high * 2 ^ 63 + low of a state of SUM
abbrev pub state_sum : Datum → ℤ
state_sum s = to_number (part_at (pos 2) s) *ℤ pos (2 ^ 63) +ℤ to_number (part_at (pos 3) s)

-- whether the counts of the states are out of range, or one of the parts has a bad value
abbrev pub is_spoilt : List Datum → Bool
is_spoilt states = is_null (join_counts (map (part_at (pos 0)) states))
    || list_any (λ s. truth (part_at (pos 1) s)) states

abbrev pub join_sums : List Datum → Datum
join_sums states =
    cond (is_spoilt states) null (number_or_null (fold (λ z s. z +ℤ state_sum s) (pos 0) states))

-- the aggregate's value from the states of all parts
abbrev pub join : Aggregate → List Datum → Datum
join count states = join_counts states
join sum states = join_sums states
join min states = unwrap_or (best lesser (flat_map elements states)) null
join max states = unwrap_or (best greater (flat_map elements states)) null
join sorted_unique states = list (distinct (flat_map elements states))
join count_distinct states = count_of (distinct (flat_map elements states))
