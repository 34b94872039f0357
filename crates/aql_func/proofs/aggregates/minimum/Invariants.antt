use Rattle.std.proofs.Common.{◌≡◌, ◌≤◌, length, drop}
use Rattle.aql_value.specs.View.{datums_in}
use Rattle.aql_func.specs.Aggregates.{best, lesser}
use Rattle.aql_func.specs.inner.Optional.{optional_datum}
use Rattle.aql_func.proofs.aggregates.minimum.Given as goal

abbrev pub invariant-loop-at : goal.invariant-loop-at
invariant-loop-at l =
    (l.at ≤ length l.values) × (optional_datum l.best ≡ best lesser (datums_in (drop l.at l.values)))

abbrev pub decreases-loop-at : goal.decreases-loop-at
decreases-loop-at l = l.at
