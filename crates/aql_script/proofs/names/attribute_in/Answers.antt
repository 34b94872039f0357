use Rattle.std.proofs.Common.{sym, ◌∙◌}
use Rattle.aql_script.proofs.NamesOn.{attribute_name}
use Rattle.aql_script.proofs.names.attribute_in.Goals as goal

pub text_of-requires : goal.text_of-requires
text_of-requires c = attribute_name c.args.piece.now (sym c.is_attribute.ensures ∙ c.if-is_attribute.true)
