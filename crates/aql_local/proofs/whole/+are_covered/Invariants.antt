use Rattle.std.proofs.Common.{length}
use Rattle.aql_local.proofs.whole.+are_covered.Given as goal

abbrev pub decreases-are_covered : goal.decreases-are_covered
decreases-are_covered l = length l.uses.now
