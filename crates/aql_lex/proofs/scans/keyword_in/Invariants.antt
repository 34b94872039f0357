use Rattle.std.proofs.Common.{◌≢◌, ◌<◌, ℕ, List, get_or, map}
use Rattle.std.specs.Char.{to_ascii_lowercase}
use denote.Ref.{Bor}
use Rattle.aql_lex.specs.declared.vocabulary.Keyword.{Keyword}
use Rattle.aql_lex.proofs.scans.keyword_in.Given as goal

abbrev pub invariant-loop-name : goal.invariant-loop-name
invariant-loop-name l = (i : ℕ) (d : Bor (List ℕ) × Keyword) → i < l.name-index
    → map to_ascii_lowercase (get_or l.lines i d).0.now ≢ map to_ascii_lowercase l.word
