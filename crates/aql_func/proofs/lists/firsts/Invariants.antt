use Rattle.std.proofs.Common.{◌≡◌, ◌++◌}
use Rattle.aql_value.specs.View.{datums_in}
use Rattle.aql_func.specs.Lists.{firsts}
use Rattle.aql_func.proofs.lists.firsts.Given as goal

abbrev pub invariant-loop-value : goal.invariant-loop-value
invariant-loop-value l = datums_in l.out.items ++ datums_in l.value-iterator ≡ firsts (datums_in l.values)
