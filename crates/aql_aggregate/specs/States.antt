-- What each aggregate keeps of the members that it saw (the high-level operation COLLECT, AGGREGATE).
use Rattle.std.specs.Prelude.{ℕ, ◌≡◌, ◌≤◌, ◌<◌, ◌*◌, ◌^◌, ℤ, pos, neg_ℤ, ◌≤ℤ◌, List, filter, length, Bool, true, false, cond, nat_lt, Option, Some, None, option_map}
use Rattle.std.specs.List.{list_any}
use Rattle.aql_value.specs.declared.values.Value.{Value}
use Rattle.aql_value.specs.Datum.{Datum}
use Rattle.aql_value.specs.View.{datum_of, datums_in}
use Rattle.aql_func.specs.Lists.{firsts}
use Rattle.aql_func.specs.Aggregates.{Aggregate, count, sum, min, max, sorted_unique, count_distinct, is_null, is_bad, is_number, exact_sum, best, lesser, greater}
use Rattle.aql_aggregate.specs.declared.summing.RunningSum.{RunningSum}
use Rattle.aql_aggregate.specs.declared.accumulator.Accumulator.{Accumulator}
use Rattle.aql_aggregate.specs.declared.accumulator.Accumulator.TheVariants as code

-- how many there are, lost from 2 ^ 63 on
abbrev pub Counts : Option ℤ → List Datum → Type 0
Counts n ts = n ≡ cond (nat_lt (length ts) (2 ^ 63)) (Some (pos (length ts))) None

-- the sum is right as long as the count is
pub record Sums (s : RunningSum) (ts : List Datum) : Type 0 where
  pub counted : Counts s.count ts
  pub marked : s.bad ≡ list_any is_bad ts
  pub added : length ts < 2 ^ 63 → s.total ≡ exact_sum (filter is_number ts)
  pub low : length ts < 2 ^ 63 → neg_ℤ (pos (2 ^ 63 * length ts)) ≤ℤ s.total
  pub high : length ts < 2 ^ 63 → s.total ≤ℤ pos (2 ^ 63 * length ts)

-- of the member that is kept and one more, the one that `pick` prefers; a null is left out
abbrev pub better_if : (Datum → Datum → Datum) → Bool → Option Datum → Datum → Option Datum
better_if pick true kept t = kept
better_if pick false None t = Some t
better_if pick false (Some u) t = Some (pick u t)

abbrev pub better : (Datum → Datum → Datum) → Option Datum → Datum → Option Datum
better pick kept t = better_if pick (is_null t) kept t

abbrev pub datum_in : Option Value → Option Datum
datum_in v = option_map datum_of v

abbrev pub Keeps : Accumulator → Aggregate → List Datum → Type 0
Keeps (code.Count n) count ts = Counts n ts
Keeps (code.Sum s) sum ts = Sums s ts
Keeps (code.Min v) min ts = datum_in v ≡ best lesser ts
Keeps (code.Max v) max ts = datum_in v ≡ best greater ts
Keeps (code.SortedUnique set) sorted_unique ts = datums_in set.keys ≡ firsts ts
Keeps (code.CountDistinct set) count_distinct ts = datums_in set.keys ≡ firsts ts
Keeps _ _ ts = ⊥
