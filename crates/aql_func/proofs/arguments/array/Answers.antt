use Rattle.std.proofs.Common.{sym, ap, ◌∙◌}
use Rattle.aql_value.specs.View.{datum_of}
use Rattle.aql_value.specs.Contents.{elements}
use Rattle.aql_value.specs.laws.Lists.{datum_list-array_of}
use Rattle.aql_func.proofs.arguments.array.Goals as goal

pub returns-in-List-clause-elements : goal.returns-in-List-clause-elements
returns-in-List-clause-elements c =
    sym (ap (λ v. elements (datum_of v)) c.in-List.is ∙ datum_list-array_of c.in-List.list)
