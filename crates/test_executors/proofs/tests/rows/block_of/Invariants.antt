use Rattle.std.proofs.Common.{◌≡◌, length}
use Rattle.test_executors.proofs.tests.rows.block_of.Given as goal

abbrev pub invariant-loop-number : goal.invariant-loop-number
invariant-loop-number l = length l.values.items ≡ l.number-index
