use Rattle.std.proofs.Common.{rules}
use Rattle.aql_top.proofs.reading.is_too_long.Goals as goal

pub returns : goal.returns
returns c = search rules
