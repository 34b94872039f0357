use Rattle.std.proofs.Common.{◌≡◌, ◌++◌, length}
use Rattle.std.specs.Prelude.{reverse}
use Rattle.aql_value.specs.View.{datums_in}
use Rattle.aql_func.proofs.values.reverse_values.Given as goal

abbrev pub invariant-loop-last : goal.invariant-loop-last
invariant-loop-last l = l.out ++ reverse (datums_in l.rest) ≡ reverse (datums_in l.values)

abbrev pub decreases-loop-last : goal.decreases-loop-last
decreases-loop-last l = length l.rest
