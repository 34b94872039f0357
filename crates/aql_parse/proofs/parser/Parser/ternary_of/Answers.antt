use Rattle.std.proofs.Common.{rules}
use Rattle.aql_grammar.specs.Reader.{ternary_of}
use Rattle.aql_parse.proofs.parser.Parser.ternary_of.Goals as goal

pub returns-then-eat : goal.returns-then-eat
unfolding ternary_of
returns-then-eat g c = search rules
