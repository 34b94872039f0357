use Rattle.std.proofs.Common.{◌≡◌}
use Rattle.aql_plan.specs.Facts.{numbers_below}
use Rattle.aql_shard.proofs.parts.all_places.Given as goal

abbrev pub invariant-loop-place : goal.invariant-loop-place
invariant-loop-place l = l.places ≡ numbers_below l.place
