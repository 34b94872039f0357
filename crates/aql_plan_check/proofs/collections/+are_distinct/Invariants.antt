use Rattle.std.proofs.Common.{length}
use Rattle.aql_plan_check.proofs.collections.+are_distinct.Given as goal

abbrev pub decreases-are_distinct : goal.decreases-are_distinct
decreases-are_distinct l = length l.all.now
