use Rattle.aql_meaning.proofs.Clauses.{worked_clauses}
use Rattle.aql_meaning.proofs.worked.worked_clauses.Goals as goal

pub returns : goal.returns
returns c = worked_clauses
