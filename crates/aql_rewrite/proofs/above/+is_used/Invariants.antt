use Rattle.std.proofs.Common.{length}
use Rattle.aql_rewrite.proofs.above.+is_used.Given as goal

abbrev pub decreases-is_used : goal.decreases-is_used
decreases-is_used l = length l.above.now
