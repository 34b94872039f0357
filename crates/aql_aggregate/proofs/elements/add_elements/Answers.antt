use Rattle.std.proofs.Common.{◌++◌, ap, subst}
use Rattle.aql_value.specs.View.{datum_of, datums_in}
use Rattle.aql_aggregate.specs.States.{Keeps}
use Rattle.aql_aggregate.specs.laws.Alike.{in_list}
use Rattle.aql_aggregate.proofs.elements.add_elements.Goals as goal

pub returns-in_ok-add_each : goal.returns-in_ok-add_each
returns-in_ok-add_each c kind ts h = subst (λ us. Keeps c.add_each.new.accumulator kind (ts ++ us))
    (in_list (datum_of c.args.state.now) c.in-List.items (datums_in c.as_slice.result.now)
    (ap datum_of c.in-List.is) c.as_slice.ensures) (c.in_ok-add_each.ensures kind ts h)
