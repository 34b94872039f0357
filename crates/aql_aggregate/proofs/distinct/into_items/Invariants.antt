use Rattle.std.proofs.Common.{◌≡◌, ◌++◌}
use Rattle.aql_value.specs.View.{datums_in}
use Rattle.aql_aggregate.proofs.distinct.into_items.Given as goal

abbrev pub invariant-loop-value : goal.invariant-loop-value
invariant-loop-value l = l.items ++ datums_in l.value-iterator.rest.items ≡ datums_in l.fn.values.items
