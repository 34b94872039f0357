use Rattle.std.proofs.Common.{rules}
use Rattle.aql_index.proofs.bounds.is_above.Goals as goal

pub returns-in-At : goal.returns-in-At
returns-in-At c = search rules
