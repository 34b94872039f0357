use Rattle.std.proofs.Common.{sym, ap, ◌∙◌}
use Rattle.aql_value.specs.View.{datum_of}
use Rattle.aql_value.specs.Contents.{attributes}
use Rattle.aql_value.specs.laws.Lists.{fields_list-object_of}
use Rattle.aql_func.proofs.arguments.object.Goals as goal

pub returns-in-Object-clause-attributes : goal.returns-in-Object-clause-attributes
returns-in-Object-clause-attributes c =
    sym (ap (λ v. attributes (datum_of v)) c.in-Object.is ∙ fields_list-object_of c.in-Object.members)
