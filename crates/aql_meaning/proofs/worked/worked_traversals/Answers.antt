use Rattle.aql_meaning.proofs.Traversals.{worked_traversals}
use Rattle.aql_meaning.proofs.worked.worked_traversals.Goals as goal

pub returns : goal.returns
returns c = worked_traversals
