use Rattle.std.proofs.Common.{rules}
use Rattle.aql_value.proofs.order.kind_of.Goals as goal

pub returns-in-Num : goal.returns-in-Num
returns-in-Num c = search rules
