use Rattle.aql_meaning.proofs.Expressions.{worked_expressions}
use Rattle.aql_meaning.proofs.worked.worked_expressions.Goals as goal

pub returns : goal.returns
returns c = worked_expressions
