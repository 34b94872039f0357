use Rattle.std.proofs.Common.{◌≡◌, [], map}
use Rattle.aql_plan.specs.Facts.{numbers_below}
use Rattle.aql_shard.specs.inner.Dealt.{part_dealt}
use Rattle.aql_shard.proofs.parts.empty_parts.Given as goal

abbrev pub invariant-loop-shard : goal.invariant-loop-shard
invariant-loop-shard l = l.parts ≡ map (part_dealt [] l.of) (numbers_below l.shard)
