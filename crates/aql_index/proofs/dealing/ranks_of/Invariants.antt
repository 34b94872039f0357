use Rattle.std.proofs.Common.{◌≡◌, map}
use Rattle.aql_plan.specs.Facts.{numbers_below}
use Rattle.aql_index.specs.Dealing.{rank}
use Rattle.aql_index.proofs.Dealt.{counts_to}
use Rattle.aql_index.proofs.dealing.ranks_of.Given as goal

abbrev pub invariant-loop-shard : goal.invariant-loop-shard
invariant-loop-shard l = record {
  ranks : l.ranks.items ≡ map (rank l.shards) (numbers_below l.shard-index);
  counts : l.counts.items ≡ counts_to l.shards l.shard-index l.count;
}
