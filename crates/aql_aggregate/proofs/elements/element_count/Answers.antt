use Rattle.std.proofs.Common.{ap}
use Rattle.aql_value.specs.View.{datum_of}
use Rattle.aql_aggregate.specs.laws.Alike.{count_fits, count_lost}
use Rattle.aql_aggregate.proofs.elements.element_count.Goals as goal

pub returns-in-Ok : goal.returns-in-Ok
returns-in-Ok c =
    let fits = c.in-Ok.ensures in
    count_fits (datum_of c.args.state.now) c.in-List.items c.len.result c.in-Ok.count
    (ap datum_of c.in-List.is)
    c.len.ensures fits.0 fits.1

pub returns-in-Err : goal.returns-in-Err
returns-in-Err c =
    let lost = c.in-Err.ensures in
    count_lost (datum_of c.args.state.now) c.in-List.items c.len.result
    (ap datum_of c.in-List.is) c.len.ensures lost
