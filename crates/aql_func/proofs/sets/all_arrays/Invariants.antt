use Rattle.std.proofs.Common.{◌≡◌, drop}
use Rattle.std.specs.List.{list_all}
use Rattle.aql_value.specs.View.{datums_in}
use Rattle.aql_func.specs.Arguments.{is_array}
use Rattle.aql_func.proofs.sets.all_arrays.Given as goal

abbrev pub invariant-loop-arg : goal.invariant-loop-arg
invariant-loop-arg l = list_all is_array (datums_in (drop l.arg-index l.args))
    ≡ list_all is_array (datums_in l.args)
