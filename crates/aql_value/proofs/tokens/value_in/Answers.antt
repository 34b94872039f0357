use Rattle.std.proofs.Common.{◌≡◌, ap, ◌∙◌}
use Rattle.json.specs.Lex.{tokens}
use Rattle.aql_value.specs.View.{datum_of}
use Rattle.aql_value.proofs.OnePass.{line_read}
use Rattle.aql_value.proofs.tokens.value_in.Goals as goal

pub returns-in-None : goal.returns-in-None
returns-in-None c =
    let text = c.in-Ok.ensures.cases in
    let start : c.in-Ok-new.reader ≡ tokens c.args.line.now = c.in-Ok-new.ensures.ok ∙ ap tokens text.0 in
    line_read c.args.line.now (datum_of c.in_ok-value.value) text.1
    (rw (start, c.in-None.ensures.value.0) at c.in_ok-value.ensures.reads)
