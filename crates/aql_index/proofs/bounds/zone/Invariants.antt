use Rattle.std.proofs.Common.{◌≡◌, ◌≤◌, length, drop}
use Rattle.aql_value.specs.View.{datums_in}
use Rattle.aql_index.specs.inner.Zones.{tail_zone, zone}
use Rattle.aql_index.proofs.bounds.zone.Given as goal

-- the values so far are equal, so the others decide
abbrev pub invariant-loop-i : goal.invariant-loop-i
invariant-loop-i l = record {
  rest : zone (tail_zone l.tail) (datums_in (drop l.i l.equal)) (datums_in (drop l.i l.keys))
      ≡ zone (tail_zone l.tail) (datums_in l.equal) (datums_in l.keys);
  within : l.i ≤ length l.keys;
}
