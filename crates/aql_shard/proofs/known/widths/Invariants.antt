use Rattle.std.proofs.Common.{◌≡◌, map}
use Rattle.aql_index.specs.Groups.{widest_of}
use Rattle.aql_plan.specs.Facts.{numbers_below}
use Rattle.aql_shard.proofs.known.widths.Given as goal

abbrev pub invariant-loop-width : goal.invariant-loop-width
invariant-loop-width l = l.all ≡ map (λ n. widest_of n l.index.entries) (numbers_below l.width)
