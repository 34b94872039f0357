use Rattle.aql_rules_index.specs.laws.Rules.{drops_items}
use Rattle.aql_rules_index.proofs.laws.remove_filter_covered_by_index_refines.Goals as goal

pub returns : goal.returns
returns c = drops_items
