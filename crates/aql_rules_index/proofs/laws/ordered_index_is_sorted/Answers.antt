use Rattle.aql_rules_index.specs.laws.Ordered.{sorted_by_index}
use Rattle.aql_rules_index.proofs.laws.ordered_index_is_sorted.Goals as goal

pub returns : goal.returns
returns c = sorted_by_index
