use Rattle.std.proofs.Common.{◌≤◌, length}
use Rattle.std.specs.Prelude.{string_bytes}
use denote.Text.{Utf8}
use denote.Shadow.{shadow}
use Rattle.aql_lex.specs.laws.Quotes.{Continues}
use Rattle.aql_lex.proofs.texts.text_scan.Given as goal

abbrev pub invariant-loop-character : goal.invariant-loop-character
invariant-loop-character l = record {
  utf8 : shadow (Utf8 l.left);
  within : length l.left ≤ length l.inner;
  so_far : Continues l.quote l.inner (string_bytes l.value) l.left;
}

abbrev pub decreases-loop-character : goal.decreases-loop-character
decreases-loop-character l = length l.left
