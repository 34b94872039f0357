use Rattle.std.proofs.Common.{length}
use Rattle.aql_rules_calc.proofs.reduce_extraction_to_projection.+add_above.Given as goal

abbrev pub decreases-add_above : goal.decreases-add_above
decreases-add_above l = length l.above.now
