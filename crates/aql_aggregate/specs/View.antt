-- The aggregate of the definitions that one of the program stands for.
use Rattle.aql_func.specs.Aggregates.{Aggregate, count, sum, min, max, sorted_unique, count_distinct}
use Rattle.aql_aggregate.specs.declared.kinds.AggregateKind.{AggregateKind}
use Rattle.aql_aggregate.specs.declared.kinds.AggregateKind.TheVariants as code

abbrev pub aggregate_of : AggregateKind → Aggregate
aggregate_of code.Count = count
aggregate_of code.Sum = sum
aggregate_of code.Min = min
aggregate_of code.Max = max
aggregate_of code.SortedUnique = sorted_unique
aggregate_of code.CountDistinct = count_distinct
