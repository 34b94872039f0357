use Rattle.std.proofs.Common.{◌≡◌, drop}
use Rattle.aql_value.specs.View.{datums_in}
use Rattle.aql_func.specs.Aggregates.{without_null}
use Rattle.aql_func.proofs.values.not_null.Given as goal

abbrev pub invariant-loop-value : goal.invariant-loop-value
invariant-loop-value l = without_null (datums_in (drop l.value-index l.value-items)) ≡ without_null l.args
