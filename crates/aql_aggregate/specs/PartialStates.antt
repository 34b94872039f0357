-- What is kept of the members of a part, and of those of other parts that are known by their states (the
-- high-level operation COLLECT, AGGREGATE; Cluster: grouping on shards).
use Rattle.std.specs.Prelude.{◌≡◌, List}
use Rattle.aql_value.specs.Datum.{Datum}
use Rattle.aql_func.specs.Aggregates.{Aggregate, count, sum, min, max, sorted_unique, count_distinct, state}
use Rattle.aql_aggregate.specs.declared.accumulator.Accumulator.{Accumulator}
use Rattle.aql_aggregate.specs.States as members
use Rattle.aql_aggregate.specs.declared.staged_accumulator.PartialAccumulator.{PartialAccumulator}
use Rattle.aql_aggregate.specs.declared.staged_accumulator.PartialAccumulator.TheVariants as code

-- the aggregate that it is of
abbrev pub kind_of : PartialAccumulator → Aggregate
kind_of (code.Count n) = count
kind_of (code.Sum s) = sum
kind_of (code.Min a) = min
kind_of (code.Max a) = max
kind_of (code.SortedUnique a) = sorted_unique
kind_of (code.CountDistinct a) = count_distinct

-- members with the same state are kept
abbrev pub KeepsAlike : Accumulator → Aggregate → List Datum → Type 0
KeepsAlike a kind ts = (us : List Datum) × members.Keeps a kind us × (state kind us ≡ state kind ts)

abbrev pub Keeps : PartialAccumulator → List Datum → Type 0
Keeps (code.Count n) ts = members.Counts n ts
Keeps (code.Sum s) ts = members.Sums s ts
Keeps (code.Min a) ts = KeepsAlike a min ts
Keeps (code.Max a) ts = KeepsAlike a max ts
Keeps (code.SortedUnique a) ts = KeepsAlike a sorted_unique ts
Keeps (code.CountDistinct a) ts = KeepsAlike a sorted_unique ts
