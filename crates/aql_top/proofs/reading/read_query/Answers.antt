use Rattle.aql_top.proofs.Once.{only_query, only_fault, only_answers}
use Rattle.aql_top.proofs.reading.read_query.Goals as goal

pub returns-clause-answers : goal.returns-clause-answers
returns-clause-answers c = only_answers _ _ _ c.judge.ensures.answers

pub returns-clause-only_query : goal.returns-clause-only_query
returns-clause-only_query c = only_query _ _ _ c.judge.ensures.fault

pub returns-clause-only_fault : goal.returns-clause-only_fault
returns-clause-only_fault c = only_fault _ _ _ _ _ c.judge.ensures.query c.judge.ensures.fault
