-- What is kept of states that are joined, or of any values in their place (the high-level operation COLLECT,
-- AGGREGATE; Cluster: grouping on shards).
use Rattle.std.specs.Prelude.{◌≡◌, pos, List, map, flat_map}
use Rattle.std.specs.List.{list_any}
use Rattle.aql_value.specs.Datum.{Datum}
use Rattle.aql_value.specs.Contents.{elements}
use Rattle.aql_value.specs.Truth.{truth}
use Rattle.aql_func.specs.Aggregates.{Aggregate, count, sum, min, max, sorted_unique, count_distinct, is_null, exact_sum, part_at}
use Rattle.aql_aggregate.specs.States as members
use Rattle.aql_aggregate.specs.declared.joining.WideSum.{WideSum}
use Rattle.aql_aggregate.specs.declared.joining.JoinedCounts.{JoinedCounts}
use Rattle.aql_aggregate.specs.declared.joining.JoinedSums.{JoinedSums}
use Rattle.aql_aggregate.specs.declared.joining.StateAccumulator.{StateAccumulator}
use Rattle.aql_aggregate.specs.declared.joining.StateAccumulator.TheVariants as code

-- the sum of the values' numbers
abbrev pub Adds : WideSum → List Datum → Type 0
Adds s ts = s.total ≡ exact_sum ts

-- whether a count is null, and the sum of the counts
pub record CountsJoin (s : JoinedCounts) (ts : List Datum) : Type 0 where
  pub lost : s.lost ≡ list_any is_null ts
  pub sum : Adds s.sum ts

-- each of the four parts of the states
pub record SumsJoin (s : JoinedSums) (ts : List Datum) : Type 0 where
  pub counts : CountsJoin s.counts (map (part_at (pos 0)) ts)
  pub bad : s.bad ≡ list_any (λ t. truth (part_at (pos 1) t)) ts
  pub high : Adds s.high (map (part_at (pos 2)) ts)
  pub low : Adds s.low (map (part_at (pos 3)) ts)

-- the other states are arrays of members
abbrev pub Joins : StateAccumulator → Aggregate → List Datum → Type 0
Joins (code.Count s) count ts = CountsJoin s ts
Joins (code.Sum s) sum ts = SumsJoin s ts
Joins (code.Min a) min ts = members.Keeps a min (flat_map elements ts)
Joins (code.Max a) max ts = members.Keeps a max (flat_map elements ts)
Joins (code.SortedUnique a) sorted_unique ts = members.Keeps a sorted_unique (flat_map elements ts)
Joins (code.CountDistinct a) count_distinct ts = members.Keeps a count_distinct (flat_map elements ts)
Joins _ _ ts = ⊥
