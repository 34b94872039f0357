use Rattle.aql_value.specs.View.{datum_of}
use Rattle.aql_func.specs.Aggregates.{min, max}
use Rattle.aql_aggregate.specs.laws.Alike.{least_state, greatest_state}
use Rattle.aql_aggregate.proofs.staged_accumulator.PartialAccumulator.state.Goals as goal

pub returns-in_ok-at_most_one-in-Min : goal.returns-in_ok-at_most_one-in-Min
returns-in_ok-at_most_one-in-Min c ts h =
    let k = rw c.in-Min.is at h in
    rw c.in-Min.is (least_state (datum_of c.in_ok-at_most_one-in-Min.field-0)
    (datum_of c.in_ok-finish-in-Min.field-0) k.0 ts
    (c.in_ok-finish-in-Min.ensures min k.0 k.1) c.in_ok-at_most_one-in-Min.ensures k.2)

pub returns-in_ok-at_most_one-in-Max : goal.returns-in_ok-at_most_one-in-Max
returns-in_ok-at_most_one-in-Max c ts h =
    let k = rw c.in-Max.is at h in
    rw c.in-Max.is (greatest_state (datum_of c.in_ok-at_most_one-in-Max.field-0)
    (datum_of c.in_ok-finish-in-Max.field-0) k.0 ts
    (c.in_ok-finish-in-Max.ensures max k.0 k.1) c.in_ok-at_most_one-in-Max.ensures k.2)
