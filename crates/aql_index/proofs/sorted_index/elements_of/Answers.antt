use Rattle.std.proofs.Common.{sym, ap, ◌∙◌}
use Rattle.aql_value.specs.Contents.{elements}
use Rattle.aql_value.specs.View.{datum_of}
use Rattle.aql_value.specs.laws.Lists.{datum_list-array_of}
use Rattle.aql_index.proofs.sorted_index.elements_of.Goals as goal

pub returns-in-List : goal.returns-in-List
returns-in-List c = c.as_slice.ensures ∙ sym (datum_list-array_of c.in-List.items)
    ∙ ap (λ v. elements (datum_of v)) (sym c.in-List.is)
