use Rattle.std.proofs.Common.{length}
use Rattle.aql_rules_index.proofs.remove_filter_covered_by_index.+is_covered.Given as goal

abbrev pub decreases-is_covered : goal.decreases-is_covered
decreases-is_covered l = length l.names.now
