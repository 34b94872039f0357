use Rattle.std.proofs.Common.{◌≡◌, map}
use Rattle.aql_plan.specs.Facts.{numbers_below}
use Rattle.aql_index.proofs.dealing.zeros.Given as goal

abbrev pub invariant-loop-shard : goal.invariant-loop-shard
invariant-loop-shard l = l.all.items ≡ map (λ _. 0) (numbers_below l._shard)
