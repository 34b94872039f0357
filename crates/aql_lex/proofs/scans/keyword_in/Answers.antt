use Rattle.std.proofs.Common.{rules, sym, ap, ◌∙◌, map}
use Rattle.std.specs.Char.{to_ascii_lowercase}
use Rattle.aql_lex.specs.Vocabulary.{name_of}
use Rattle.aql_lex.proofs.Tables.{spelled_at, keyword_none}
use Rattle.aql_lex.proofs.scans.keyword_in.Goals as goal

pub returns-then-eq_ignore_ascii_case : goal.returns-then-eq_ignore_ascii_case
returns-then-eq_ignore_ascii_case c =
    let spelled = spelled_at name_of c.args.lines.now c.requires _ _ c.loop-name-test.true in
    ap (map to_ascii_lowercase) (sym spelled) ∙ search rules

pub returns : goal.returns
returns c =
    keyword_none c.args.lines.now c.requires c.args.word.now _ c.loop-name-test.false
    c.loop-name.invariant
