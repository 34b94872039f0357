use Rattle.std.proofs.Common.{codes, refl, sym, ◌∙◌}
use Rattle.aql_doc.proofs.Attributes.{stays}
use Rattle.aql_doc.proofs.document.with_key.Goals as goal

pub returns-then-is_some : goal.returns-then-is_some
returns-then-is_some c =
    stays (codes "_key") c.args.key.now c.args.members _ c.value.result c.requires.names refl c.value.ensures
    (sym c.is_some.ensures ∙ c.if-is_some.true) c.requires.key
