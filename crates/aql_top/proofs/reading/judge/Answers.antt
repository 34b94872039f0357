use Rattle.std.proofs.Common.{rules}
use Rattle.aql_top.proofs.reading.judge.Goals as goal

pub returns-clause-query : goal.returns-clause-query
returns-clause-query c = search rules
