use Rattle.aql_value.specs.View.{datum_of}
use Rattle.aql_aggregate.proofs.Unique.{counted}
use Rattle.aql_aggregate.proofs.accumulator.Accumulator.finish.Goals as goal

pub returns-in-CountDistinct : goal.returns-in-CountDistinct
returns-in-CountDistinct c kind ts h = counted c.in-CountDistinct.seen kind ts (datum_of c.count.result)
    c.count.ensures (rw c.in-CountDistinct.is at h)
