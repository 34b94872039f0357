use Rattle.std.proofs.Common.{rules}
use Rattle.aql_top.proofs.query_faults.QueryFaultFromParseFault.from.Goals as goal

pub returns-in-NotInGrammar : goal.returns-in-NotInGrammar
returns-in-NotInGrammar c = search rules
