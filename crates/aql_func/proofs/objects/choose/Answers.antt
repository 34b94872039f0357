use Rattle.std.proofs.Common.{ap, sym, ◌∙◌}
use Rattle.aql_value.specs.View.{datum_of, datums_in}
use Rattle.aql_value.specs.Contents.{record_of}
use Rattle.aql_func.specs.Arguments.{of_object}
use Rattle.aql_func.specs.inner.Choices.{choose}
use Rattle.aql_value.specs.laws.Lists.{fields_list-object_of}
use Rattle.aql_func.proofs.objects.choose.Goals as goal

pub returns-in_ok-choose_members-in-Object : goal.returns-in_ok-choose_members-in-Object
returns-in_ok-choose_members-in-Object c =
    let names = datums_in c.args.names.now in
    ap record_of (c.in_ok-choose_members-in-Object.ensures
    ∙ ap (choose c.args.present names) (sym (fields_list-object_of c.in-Object.members)))
    ∙ ap (λ v. of_object (datum_of v) (λ fs. record_of (choose c.args.present names fs)))
    (sym c.in-Object.is)
