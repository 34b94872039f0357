use Rattle.std.proofs.Common.{sym, ap, ◌∙◌}
use Rattle.aql_value.specs.Attributes.{attribute as find_attribute}
use Rattle.aql_value.specs.Contents.{attributes}
use Rattle.aql_value.specs.View.{datum_of}
use Rattle.aql_value.specs.laws.Lists.{fields_list-object_of}
use Rattle.aql_value.proofs.hashing.attribute.Goals as goal

pub returns-in-Object : goal.returns-in-Object
returns-in-Object c = c.value.ensures
    ∙ ap (find_attribute c.args.name.now) (sym (fields_list-object_of c.in-Object.members))
    ∙ ap (λ v. find_attribute c.args.name.now (attributes (datum_of v))) (sym c.in-Object.is)
