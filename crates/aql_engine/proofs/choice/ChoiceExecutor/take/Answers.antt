use Rattle.aql_engine.proofs.choice.ChoiceExecutor.take.Goals as goal

pub returns-in-First-clause-leads : goal.returns-in-First-clause-leads
returns-in-First-clause-leads g c = rw c.in-First.is c.take.ensures.leads

pub returns-in-Second-clause-leads : goal.returns-in-Second-clause-leads
returns-in-Second-clause-leads g c = rw c.in-Second.is c.take-in-Second.ensures.leads
