use Rattle.std.proofs.Common.{◌≡◌, take}
use Rattle.aql_value.specs.View.{datums_in}
use Rattle.aql_func.specs.inner.Sieves.{sift}
use Rattle.aql_func.proofs.lists.sift_by.Given as goal

abbrev pub invariant-loop-value : goal.invariant-loop-value
invariant-loop-value l = datums_in l.out.items ≡ sift l.present (datums_in l.set.keys)
    (datums_in (take l.value-index l.values))
