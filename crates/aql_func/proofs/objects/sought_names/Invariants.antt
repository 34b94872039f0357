use Rattle.std.proofs.Common.{◌≡◌, take}
use Rattle.std.specs.Prelude.{flat_map}
use Rattle.aql_value.specs.View.{datums_in}
use Rattle.aql_func.specs.Arguments.{elements_or_self}
use Rattle.aql_func.proofs.objects.sought_names.Given as goal

abbrev pub invariant-loop-arg : goal.invariant-loop-arg
invariant-loop-arg l = datums_in l.out.items ≡ flat_map elements_or_self (datums_in (take l.arg-index l.args))
