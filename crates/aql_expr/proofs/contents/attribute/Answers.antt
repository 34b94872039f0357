use Rattle.std.proofs.Common.{◌≡◌, ℕ, List, unwrap_or, ap, sym, ◌∙◌}
use Rattle.aql_value.specs.Attributes.{attribute}
use Rattle.aql_value.specs.Contents.{at_name, record_of}
use Rattle.aql_value.specs.Datum.{Datum, null}
use Rattle.aql_value.specs.View.{datum_of}
use Rattle.aql_value.specs.laws.Lists.{fields_list-object_of}
use Rattle.aql_expr.proofs.contents.attribute.Goals as goal

-- what is found among the attributes is the object's
found : (name : List ℕ) (fs : List (List ℕ × Datum))
    → unwrap_or (attribute name fs) null ≡ at_name (record_of fs) name
found name fs = ap (λ gs. unwrap_or (attribute name gs) null) (sym (fields_list-object_of fs))

pub returns-in-Some : goal.returns-in-Some
returns-in-Some c =
    ap (λ t. unwrap_or t null) c.in-Some.ensures ∙ found c.args.name.now c.in-Object.members
    ∙ ap (λ v. at_name (datum_of v) c.args.name.now) (sym c.in-Object.is)

pub returns-in-None : goal.returns-in-None
returns-in-None c =
    c.requires ∙ ap (λ t. unwrap_or t null) c.in-None.ensures ∙ found c.args.name.now c.in-Object.members
    ∙ ap (λ v. at_name (datum_of v) c.args.name.now) (sym c.in-Object.is)
