use Rattle.std.proofs.Common.{◌≡◌, length, take}
use Rattle.aql_shard.specs.inner.Kept.{facts_by}
use Rattle.aql_shard.proofs.known.index_facts.Given as goal

abbrev pub invariant-loop-shape : goal.invariant-loop-shape
invariant-loop-shape l =
    l.facts ≡ facts_by (take (length l.yielded) l.shapes) (take (length l.yielded) l.indexes)
