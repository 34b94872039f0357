use Rattle.std.proofs.Common.{length}
use Rattle.aql_rules_cluster.proofs.key_items.+add_bound_items.Given as goal

abbrev pub decreases-add_bound_items : goal.decreases-add_bound_items
decreases-add_bound_items l = length l.names.now
