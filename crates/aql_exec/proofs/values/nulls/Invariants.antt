use Rattle.std.proofs.Common.{◌≡◌}
use Rattle.std.specs.Prelude.{replicate}
use Rattle.aql_value.specs.Datum.{null}
use Rattle.aql_value.specs.View.{datums_in}
use Rattle.aql_exec.proofs.values.nulls.Given as goal

abbrev pub invariant-loop-null : goal.invariant-loop-null
invariant-loop-null l = datums_in l.values.items ≡ replicate l._null null
