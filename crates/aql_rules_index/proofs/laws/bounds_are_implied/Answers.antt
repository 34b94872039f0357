use Rattle.aql_rules_index.specs.laws.Implied.{index_met}
use Rattle.aql_rules_index.proofs.laws.bounds_are_implied.Goals as goal

pub returns : goal.returns
returns c = index_met
