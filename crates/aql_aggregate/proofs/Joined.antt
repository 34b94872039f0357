-- The states of all parts, joined, are the aggregate of all members.
use Rattle.std.proofs.Common.{◌≡◌, List, map, ap, unwrap_or}
use Rattle.aql_value.specs.Datum.{Datum, null}
use Rattle.aql_func.specs.Aggregates.{Aggregate, count, sum, min, max, sorted_unique, count_distinct, aggregate, state, join, count_of}
use Rattle.aql_aggregate.specs.Theorems.{all_of}
use Rattle.aql_aggregate.specs.laws.Counts.{counts_joined}
use Rattle.aql_aggregate.specs.laws.Totals.{sums_joined}
use Rattle.aql_value.specs.Contents.{list}
use Rattle.aql_aggregate.specs.laws.Members.{distinct_joined}
use Rattle.aql_aggregate.specs.laws.Chosen.{least_joined, greatest_joined}

pub joined : (kind : Aggregate) (parts : List (List Datum))
    → join kind (map (state kind) parts) ≡ aggregate kind (all_of parts)
joined count parts = counts_joined parts
joined sum parts = sums_joined parts
joined min parts = ap (λ o. unwrap_or o null) (least_joined parts)
joined max parts = ap (λ o. unwrap_or o null) (greatest_joined parts)
joined sorted_unique parts = ap list (distinct_joined parts)
joined count_distinct parts = ap count_of (distinct_joined parts)
