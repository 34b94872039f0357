use Rattle.std.proofs.Common.{rules}
use Rattle.aql_parse.proofs.parser.Parser.return_part.Goals as goal

pub returns : goal.returns
returns c = search rules
