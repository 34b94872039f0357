use Rattle.std.proofs.Common.{Option, unwrap_or, ap, sym, ◌∙◌}
use Rattle.std.proofs.lemmas.Result.{IfOk-weaker}
use Rattle.std.specs.Prelude.{List, ℕ, codes}
use Rattle.aql_value.specs.Datum.{Datum, null}
use Rattle.aql_value.specs.View.{datum_of}
use Rattle.aql_value.specs.Attributes.{attribute}
use Rattle.aql_func.specs.Objects.{id_of_text, id_text}
use Rattle.aql_value.specs.laws.Lists.{fields_list-object_of}
use Rattle.aql_exec_graph.proofs.ids.id_text.Goals as goal

abbrev id_in : Option Datum → Option (List ℕ)
id_in o = id_of_text (unwrap_or o null)

pub returns-in-Some : goal.returns-in-Some
returns-in-Some c =
    IfOk-weaker c.id_of_text.result _ _ (λ v gives. gives ∙ ap id_in c.in-Some.ensures
    ∙ ap (λ fs. id_in (attribute (codes "_id") fs)) (sym (fields_list-object_of c.in-Object.members))
    ∙ ap (λ v. id_text (datum_of v)) (sym c.in-Object.is)) c.id_of_text.ensures

pub returns-in-None : goal.returns-in-None
returns-in-None c =
    ap id_in c.in-None.ensures ∙ ap (λ fs. id_in (attribute (codes "_id") fs))
    (sym (fields_list-object_of c.in-Object.members))
    ∙ ap (λ v. id_text (datum_of v)) (sym c.in-Object.is)
