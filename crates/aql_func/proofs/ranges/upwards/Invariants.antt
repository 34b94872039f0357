use Rattle.std.proofs.Common.{◌≡◌, ◌++◌}
use Rattle.std.specs.Prelude.{pos, ◌≤ℤ◌, ◌-ℤ◌, unsigned_abs}
use Rattle.aql_func.specs.Operators.{numbers, range_length}
use Rattle.aql_func.proofs.ranges.upwards.Given as goal

abbrev pub invariant-loop-next : goal.invariant-loop-next
invariant-loop-next l = record {
  within : l.next ≤ℤ l.high;
  numbers : l.out ++ numbers (pos 1) l.next (range_length l.next l.high)
      ≡ numbers (pos 1) l.low (range_length l.low l.high);
}

abbrev pub decreases-loop-next : goal.decreases-loop-next
decreases-loop-next l = unsigned_abs (l.high -ℤ l.next)
