use Rattle.std.proofs.Common.{◌≡◌, ◌++◌}
use Rattle.std.specs.Prelude.{negsuc, ◌≤ℤ◌, ◌-ℤ◌, unsigned_abs}
use Rattle.aql_func.specs.Operators.{numbers, range_length}
use Rattle.aql_func.proofs.ranges.downwards.Given as goal

abbrev pub invariant-loop-next : goal.invariant-loop-next
invariant-loop-next l = record {
  within : l.high ≤ℤ l.next;
  numbers : l.out ++ numbers (negsuc 0) l.next (range_length l.next l.high)
      ≡ numbers (negsuc 0) l.low (range_length l.low l.high);
}

abbrev pub decreases-loop-next : goal.decreases-loop-next
decreases-loop-next l = unsigned_abs (l.high -ℤ l.next)
