use Rattle.aql_meaning.specs.laws.Replaced.{stands_in, replace_in_answer}
use Rattle.aql_meaning.proofs.laws.stands_at_any_place.Goals as goal

pub returns : goal.returns
returns c = λ db q e s x. (stands_in db x q e s, replace_in_answer db x q e s)
