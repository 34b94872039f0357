use Rattle.std.proofs.Common.{◌≡◌, false, drop}
use Rattle.aql_value.specs.View.{datums_in}
use Rattle.aql_func.specs.Lists.{add_all}
use Rattle.aql_func.proofs.lists.add_all.Given as goal

abbrev pub invariant-loop-value : goal.invariant-loop-value
invariant-loop-value l =
    add_all false l.out (datums_in (drop l.value-index l.more))
    ≡ add_all false (datums_in l.values) (datums_in l.more)
