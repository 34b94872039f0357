use Rattle.aql_rules_index.specs.laws.Rules.{uses_index}
use Rattle.aql_rules_index.proofs.laws.use_indexes_refines.Goals as goal

pub returns : goal.returns
returns c = uses_index
