use Rattle.std.proofs.Common.{sym, ◌∙◌}
use Rattle.aql_lex.proofs.Cuts.{blank_takes, begins_other, other_character}
use Rattle.aql_lex.proofs.scans.take.Goals as goal

pub symbol-requires-clause-other : goal.symbol-requires-clause-other
symbol-requires-clause-other c =
    begins_other c.args.first _ _ c.requires
    (other_character c.args.first (sym c.is_blank.ensures ∙ c.if-is_blank.false)
    (sym c.is_letter.ensures ∙ c.if-is_letter.false)
    (sym c.is_ascii_digit.ensures.value ∙ c.if-is_ascii_digit.false)
    (sym c.is_quote.ensures ∙ c.if-is_quote.false) c.if-first-eq96.false)

pub returns-then-is_blank-clause-takes : goal.returns-then-is_blank-clause-takes
returns-then-is_blank-clause-takes c =
    blank_takes _ _ _ (sym c.is_blank.ensures ∙ c.if-is_blank.true) c.requires
