use Rattle.std.proofs.Common.{◌≡◌}
use Rattle.aql_plan.specs.Facts.{numbers_below}
use Rattle.aql_local.proofs.reach.numbers_to.Given as goal

abbrev pub invariant-loop-number : goal.invariant-loop-number
invariant-loop-number l = l.numbers.items ≡ numbers_below l.number
