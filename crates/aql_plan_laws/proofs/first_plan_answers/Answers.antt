use Rattle.aql_plan_laws.specs.laws.FirstAnswers.{first_answers}
use Rattle.aql_plan_laws.proofs.first_plan_answers.Goals as goal

pub returns : goal.returns
returns c = first_answers
