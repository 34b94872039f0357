use Rattle.std.proofs.Common.{length}
use Rattle.aql_rewrite.proofs.above.+add_above.Given as goal

abbrev pub decreases-add_above : goal.decreases-add_above
decreases-add_above l = length l.above.now
