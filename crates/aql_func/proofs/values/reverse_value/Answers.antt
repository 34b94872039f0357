use Rattle.std.proofs.Common.{ap, sym, ◌∙◌}
use Rattle.std.specs.Prelude.{reverse}
use Rattle.aql_value.specs.View.{datum_of}
use Rattle.aql_value.specs.Contents.{list}
use Rattle.aql_func.specs.Functions.{reverse_value}
use Rattle.aql_value.specs.laws.Lists.{datum_list-array_of}
use Rattle.aql_func.proofs.values.reverse_value.Goals as goal

pub returns-in_ok-reverse_values-in-List : goal.returns-in_ok-reverse_values-in-List
returns-in_ok-reverse_values-in-List c =
    ap list (c.in_ok-reverse_values-in-List.ensures ∙ ap reverse (c.as_slice.ensures
    ∙ sym (datum_list-array_of c.in-List.list))) ∙ ap (λ v. reverse_value (datum_of v)) (sym c.in-List.is)
