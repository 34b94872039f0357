use Rattle.aql_options.proofs.values.rules_or_all.Goals as goal

pub returns-in-Some : goal.returns-in-Some
returns-in-Some c = rw c.in-Some.is c.rules_of.ensures
