use Rattle.std.proofs.Common.{length}
use Rattle.aql_rules_cluster.proofs.single_shards.+same_exprs.Given as goal

abbrev pub decreases-same_exprs : goal.decreases-same_exprs
decreases-same_exprs l = length l.a.now
