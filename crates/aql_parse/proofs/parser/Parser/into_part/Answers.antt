use Rattle.std.proofs.Common.{rules}
use Rattle.aql_grammar.specs.Reader.{into_part}
use Rattle.aql_parse.proofs.parser.Parser.into_part.Goals as goal

pub returns-then-eat_word : goal.returns-then-eat_word
unfolding into_part
returns-then-eat_word g c = search rules
