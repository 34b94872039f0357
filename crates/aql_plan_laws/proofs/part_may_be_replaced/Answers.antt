use Rattle.aql_plan_laws.specs.laws.Congruence.{refines_anywhere, refines_body, refines_answers}
use Rattle.aql_plan_laws.proofs.part_may_be_replaced.Goals as goal

pub returns-clause-part : goal.returns-clause-part
returns-clause-part c = refines_anywhere

pub returns-clause-body : goal.returns-clause-body
returns-clause-body c = refines_body

pub returns-clause-result : goal.returns-clause-result
returns-clause-result c = refines_answers
