use Rattle.std.proofs.Common.{rules}
use Rattle.aql_func.proofs.like.simple_piece.Goals as goal

pub returns-in-95 : goal.returns-in-95
returns-in-95 c = search rules
