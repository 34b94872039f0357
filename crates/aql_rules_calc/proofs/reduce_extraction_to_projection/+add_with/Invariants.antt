use Rattle.std.proofs.Common.{length}
use Rattle.aql_rules_calc.proofs.reduce_extraction_to_projection.+add_with.Given as goal

abbrev pub decreases-add_with : goal.decreases-add_with
decreases-add_with l = length l.names.now
