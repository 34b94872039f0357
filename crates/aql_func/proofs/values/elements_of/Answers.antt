use Rattle.std.proofs.Common.{ℕ, List, map, ap, sym, ◌∙◌}
use Rattle.std.proofs.lemmas.Result.{IfOk-weaker}
use Rattle.aql_value.specs.Datum.{Datum}
use Rattle.aql_value.specs.View.{datum_of}
use Rattle.aql_value.specs.Contents.{list}
use Rattle.aql_func.specs.Functions.{to_array}
use Rattle.aql_value.specs.laws.Lists.{datum_list-array_of, fields_list-object_of}
use Rattle.aql_func.proofs.values.elements_of.Goals as goal

pub returns-in-List : goal.returns-in-List
returns-in-List c =
    IfOk-weaker c.copy_all.result _ _ (λ w gives. ap list (gives ∙ c.as_slice.ensures
    ∙ sym (datum_list-array_of c.in-List.list))
    ∙ ap (λ v. to_array (datum_of v)) (sym c.in-List.is)) c.copy_all.ensures

pub returns-in-Object : goal.returns-in-Object
returns-in-Object c =
    IfOk-weaker c.values_of.result _ _ (λ w gives. ap list (gives
    ∙ ap (map (λ (f : List ℕ × Datum). f.1)) (sym (fields_list-object_of c.in-Object.members)))
    ∙ ap (λ v. to_array (datum_of v)) (sym c.in-Object.is)) c.values_of.ensures
