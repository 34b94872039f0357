use Rattle.std.proofs.Common.{◌++◌, List, take}
use Rattle.aql_value.specs.Datum.{Datum}
use Rattle.aql_value.specs.View.{datums_in}
use Rattle.aql_func.specs.Aggregates.{Aggregate}
use Rattle.aql_aggregate.specs.States.{Keeps}
use Rattle.aql_aggregate.proofs.elements.add_each.Given as goal

abbrev pub invariant-loop-value : goal.invariant-loop-value
invariant-loop-value l = (kind : Aggregate) (ts : List Datum) → Keeps l.fn.accumulator kind ts
    → Keeps l.accumulator kind (ts ++ datums_in (take l.value-index l.values))
