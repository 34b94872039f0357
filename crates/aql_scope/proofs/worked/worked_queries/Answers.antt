use Rattle.aql_scope.proofs.Computed.{worked_queries}
use Rattle.aql_scope.proofs.worked.worked_queries.Goals as goal

pub returns : goal.returns
returns c = worked_queries
