use Rattle.std.proofs.Common.{◌≡◌, take}
use Rattle.aql_value.specs.View.{datums_in}
use Rattle.aql_index.proofs.keys.copy_values.Given as goal

abbrev pub invariant-loop-value : goal.invariant-loop-value
invariant-loop-value l = l.copies ≡ datums_in (take l.value-index l.values)
