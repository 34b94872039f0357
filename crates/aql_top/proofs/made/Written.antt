-- The query of the script that is made is written within all limits.
use Rattle.std.proofs.Common.{◌≤◌, length, refl, arith}
use Rattle.aql_grammar.specs.Kinds.{kinds_of}
use Rattle.aql_parse.specs.Parses.{WithinLimits}
use Rattle.aql_options.specs.Generated.{query}
use Rattle.aql_top.specs.Reading.{IsWritten}
use Rattle.aql_top.proofs.made.Tokens.{made_tokens, made_lexes}
use Rattle.aql_top.proofs.made.Query.{made_query}
use Rattle.aql_top.proofs.made.Tree.{made_spelled}

short : length query ≤ 65536
short = omega arith

within_limits : WithinLimits (kinds_of made_tokens)
within_limits = (omega arith, omega arith)

pub made_is_written : IsWritten query made_query
made_is_written = record {
  tokens = made_tokens;
  has_tokens = (short, made_lexes);
  within = within_limits;
  spelled = made_spelled;
  shallow = refl;
}
