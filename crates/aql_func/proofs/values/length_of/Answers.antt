use Rattle.std.proofs.Common.{length, ap, sym, ◌∙◌, rules}
use Rattle.std.specs.Prelude.{pos}
use Rattle.aql_value.specs.View.{datum_of}
use Rattle.aql_value.specs.Convert.{number_or_null}
use Rattle.aql_func.specs.Functions.{length_of}
use Rattle.aql_value.specs.laws.Lists.{datum_list-array_of, fields_list-object_of}
use Rattle.aql_func.proofs.values.length_of.Goals as goal

pub returns-in-List : goal.returns-in-List
returns-in-List c =
    c.count.ensures ∙ ap (λ n. number_or_null (pos n)) (c.len.ensures
    ∙ ap length (sym (datum_list-array_of c.in-List.list)))
    ∙ ap (λ v. length_of (datum_of v)) (sym c.in-List.is)

pub returns-in-Object : goal.returns-in-Object
returns-in-Object c =
    c.count-in-Object.ensures ∙ ap (λ n. number_or_null (pos n)) (c.len-in-Object.ensures
    ∙ ap length (sym (fields_list-object_of c.in-Object.members)))
    ∙ ap (λ v. length_of (datum_of v)) (sym c.in-Object.is)

pub returns-in-Bool-true : goal.returns-in-Bool-true
returns-in-Bool-true c = search rules
