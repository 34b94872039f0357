use Rattle.aql_options.proofs.Lists.{AreNamedTo}
use Rattle.aql_options.proofs.rule_lists.named.Given as goal

abbrev pub invariant-loop-name : goal.invariant-loop-name
invariant-loop-name l = AreNamedTo l.name-index l.name-items l.rules
