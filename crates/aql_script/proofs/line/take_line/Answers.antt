use Rattle.std.proofs.Common.{rules}
use Rattle.aql_script.specs.LineEffects.{line_effect}
use Rattle.aql_script.proofs.line.take_line.Goals as goal

pub returns-then-bytes-gt-LINE_BYTES : goal.returns-then-bytes-gt-LINE_BYTES
unfolding line_effect
returns-then-bytes-gt-LINE_BYTES c = search rules

pub returns-in_default : goal.returns-in_default
unfolding line_effect
returns-in_default c = search rules

pub returns-in_err-take_document : goal.returns-in_err-take_document
unfolding line_effect
returns-in_err-take_document c = search rules

pub returns-then-first-eq37 : goal.returns-then-first-eq37
unfolding line_effect
returns-then-first-eq37 c = search rules

pub returns-in_ok-take_document : goal.returns-in_ok-take_document
unfolding line_effect
returns-in_ok-take_document c = search rules
