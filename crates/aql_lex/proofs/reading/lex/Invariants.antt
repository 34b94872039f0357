use Rattle.std.proofs.Common.{◌≤◌, ◌+◌, length}
use Rattle.std.specs.Prelude.{All}
use Rattle.aql_lex.specs.Tokens.{IsUnsigned}
use denote.Text.{Utf8}
use denote.Shadow.{shadow}
use Rattle.aql_lex.specs.laws.Readings.{Continues}
use Rattle.aql_lex.proofs.reading.lex.Given as goal

abbrev pub invariant-loop-character : goal.invariant-loop-character
invariant-loop-character l = record {
  utf8 : shadow (Utf8 l.left);
  within : length l.left ≤ length l.text;
  few : length l.tokens + length l.left ≤ length l.text;
  unsigned : All (λ token. IsUnsigned token.kind) l.tokens;
  so_far : Continues l.text l.tokens l.left;
}

abbrev pub decreases-loop-character : goal.decreases-loop-character
decreases-loop-character l = length l.left
