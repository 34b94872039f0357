use Rattle.aql_value.specs.View.{datum_of}
use Rattle.aql_func.specs.Aggregates.{sorted_unique}
use Rattle.aql_aggregate.specs.laws.Alike.{distinct_counted}
use Rattle.aql_aggregate.proofs.staged_accumulator.PartialAccumulator.finish.Goals as goal

pub returns-in_ok-finish-in-CountDistinct : goal.returns-in_ok-finish-in-CountDistinct
returns-in_ok-finish-in-CountDistinct c ts h =
    let k = rw c.in-CountDistinct.is at h in
    rw c.in-CountDistinct.is (distinct_counted (datum_of c.element_count.result)
    (datum_of c.in_ok-finish-in-CountDistinct.field-0) k.0 ts
    (c.in_ok-finish-in-CountDistinct.ensures sorted_unique k.0 k.1) c.element_count.ensures k.2)
