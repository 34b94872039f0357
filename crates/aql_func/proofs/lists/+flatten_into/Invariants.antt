use Rattle.std.proofs.Common.{◌≡◌, ◌++◌, take}
use Rattle.aql_value.specs.View.{datums_in}
use Rattle.aql_func.specs.Lists.{flatten}
use Rattle.aql_func.proofs.lists.+flatten_into.Given as goal

abbrev pub invariant-loop-value : goal.invariant-loop-value
invariant-loop-value l = l.out ≡ l.initial.out ++ flatten l.depth (datums_in (take l.value-index l.values))

abbrev pub decreases-flatten_into : goal.decreases-flatten_into
decreases-flatten_into l = l.depth
