use Rattle.std.proofs.Common.{length}
use Rattle.aql_rules_index.proofs.use_index_for_sort.+all_go.Given as goal

abbrev pub decreases-all_go : goal.decreases-all_go
decreases-all_go l = length l.keys.now
