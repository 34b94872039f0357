use Rattle.std.proofs.Common.{◌≡◌, take}
use Rattle.aql_value.specs.View.{datums_in}
use Rattle.aql_func.specs.Lists.{firsts}
use Rattle.aql_func.proofs.lists.distinct_set.Given as goal

abbrev pub invariant-loop-value : goal.invariant-loop-value
invariant-loop-value l = datums_in l.seen.keys ≡ firsts (datums_in (take l.value-index l.values))
