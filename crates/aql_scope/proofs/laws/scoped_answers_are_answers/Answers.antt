use Rattle.aql_scope.proofs.Answers.{scoped_back}
use Rattle.aql_scope.proofs.laws.scoped_answers_are_answers.Goals as goal

pub returns : goal.returns
returns c = scoped_back
