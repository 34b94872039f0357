use Rattle.std.proofs.Common.{sym}
use Rattle.aql_lex.specs.laws.Quotes.{ascii_boundary}
use Rattle.aql_lex.proofs.texts.escape.Goals as goal

pub split_at-requires : goal.split_at-requires
split_at-requires c =
    ascii_boundary c.args.text.now _ c.utf8.text
    (rw (sym c.as_bytes.ensures.value) c.in_ok-character.ensures.ascii)
