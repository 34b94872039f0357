use Rattle.std.proofs.Common.{◌≡◌, ◌++◌, take}
use Rattle.aql_value.specs.View.{datums_in}
use Rattle.aql_func.proofs.lists.append.Given as goal

abbrev pub invariant-loop-value : goal.invariant-loop-value
invariant-loop-value l = datums_in l.out.items ≡ datums_in l.initial.out.items ++ datums_in
    (take l.value-index l.values)
