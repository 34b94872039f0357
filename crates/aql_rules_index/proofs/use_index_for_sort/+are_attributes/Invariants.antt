use Rattle.std.proofs.Common.{length}
use Rattle.aql_rules_index.proofs.use_index_for_sort.+are_attributes.Given as goal

abbrev pub decreases-are_attributes : goal.decreases-are_attributes
decreases-are_attributes l = length l.keys.now
