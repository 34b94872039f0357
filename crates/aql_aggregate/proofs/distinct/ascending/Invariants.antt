use Rattle.std.proofs.Common.{◌≡◌, ◌++◌}
use Rattle.aql_value.specs.View.{datums_in}
use Rattle.aql_aggregate.proofs.distinct.ascending.Given as goal

abbrev pub invariant-loop-value : goal.invariant-loop-value
invariant-loop-value l = datums_in l.values.items ++ datums_in l.value-iterator ≡ datums_in l.fn.seen.keys
