use Rattle.std.proofs.Common.{sym, ap, ◌∙◌}
use Rattle.aql_value.specs.View.{datum_of}
use Rattle.aql_func.specs.Arguments.{elements_or_self}
use Rattle.aql_value.specs.laws.Lists.{datum_list-array_of}
use Rattle.aql_func.proofs.arguments.opened_value.Goals as goal

pub returns-in-List : goal.returns-in-List
returns-in-List c = c.as_slice.ensures ∙ sym (ap (λ v. elements_or_self (datum_of v)) c.in-List.is
    ∙ datum_list-array_of c.in-List.list)
