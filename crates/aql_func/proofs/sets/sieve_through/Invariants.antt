use Rattle.std.proofs.Common.{◌≡◌, map, drop}
use Rattle.aql_value.specs.View.{datums_in}
use Rattle.aql_value.specs.Contents.{elements}
use Rattle.aql_func.specs.inner.Sieves.{sieve}
use Rattle.aql_func.proofs.sets.sieve_through.Given as goal

abbrev pub invariant-loop-other : goal.invariant-loop-other
invariant-loop-other l = sieve l.present (map elements (datums_in (drop l.other-index l.others)))
    (datums_in l.left.items) ≡ sieve l.present (map elements (datums_in l.others)) (datums_in l.values)
