use Rattle.std.proofs.Common.{ap, sym, ◌∙◌}
use Rattle.aql_value.specs.Contents.{elements}
use Rattle.aql_value.specs.View.{datum_of}
use Rattle.aql_value.specs.laws.Lists.{datum_list-array_of}
use Rattle.aql_expr.proofs.contents.elements.Goals as goal

pub returns-in-List : goal.returns-in-List
returns-in-List c =
    c.as_slice.ensures
    ∙ sym (ap (λ v. elements (datum_of v)) c.in-List.is ∙ datum_list-array_of c.in-List.list)
