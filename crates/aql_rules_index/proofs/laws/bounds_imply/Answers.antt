use Rattle.aql_rules_index.specs.laws.Implied.{covered_says}
use Rattle.aql_rules_index.proofs.laws.bounds_imply.Goals as goal

pub returns : goal.returns
returns c = covered_says
