use Rattle.std.proofs.Common.{rules}
use Rattle.aql_func.proofs.lists.count_up_to.Goals as goal

pub returns-in-Err : goal.returns-in-Err
returns-in-Err c = search rules
