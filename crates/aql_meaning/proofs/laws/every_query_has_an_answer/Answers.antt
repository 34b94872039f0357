use Rattle.aql_meaning.specs.laws.SomeAnswer.{some_answer}
use Rattle.aql_meaning.proofs.laws.every_query_has_an_answer.Goals as goal

pub returns : goal.returns
returns c = some_answer
