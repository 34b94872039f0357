use Rattle.aql_engine.proofs.choice.ChoiceWired.deliver.Goals as goal

pub returns-in-First-clause-undisturbed : goal.returns-in-First-clause-undisturbed
returns-in-First-clause-undisturbed g c = rw c.in-First.is c.deliver.ensures.undisturbed

pub returns-in-Second-clause-undisturbed : goal.returns-in-Second-clause-undisturbed
returns-in-Second-clause-undisturbed g c = rw c.in-Second.is c.deliver-in-Second.ensures.undisturbed
