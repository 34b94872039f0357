use Rattle.std.proofs.Common.{ap}
use Rattle.aql_value.specs.View.{datum_of, datums_in}
use Rattle.aql_aggregate.specs.laws.Alike.{in_list}
use Rattle.aql_aggregate.proofs.joining.elements_of.Goals as goal

pub returns-in-List : goal.returns-in-List
returns-in-List c = in_list (datum_of c.args.value.now) c.in-List.items (datums_in c.as_slice.result.now)
    (ap datum_of c.in-List.is) c.as_slice.ensures
