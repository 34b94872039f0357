use Rattle.aql_rules_index.specs.laws.Rows.{narrowed}
use Rattle.aql_rules_index.proofs.laws.index_narrows.Goals as goal

pub returns : goal.returns
returns c = narrowed
