use Rattle.std.proofs.Common.{ap, ◌∙◌}
use Rattle.aql_value.specs.Datum.{text}
use Rattle.aql_value.specs.View.{datums_in}
use Rattle.aql_value.specs.Contents.{is_in}
use Rattle.aql_value.specs.declared.values.Value.TheVariants.{Text}
use Rattle.aql_func.specs.laws.Firsts.{any_tree}
use Rattle.aql_func.proofs.objects.is_among.Goals as goal

pub returns : goal.returns
returns c = c.contains.ensures ∙ any_tree (Text c.in_ok-copy.field-0) c.args.names.now.keys
    ∙ ap (λ s. is_in (datums_in c.args.names.now.keys) (text s)) c.in_ok-copy.ensures
