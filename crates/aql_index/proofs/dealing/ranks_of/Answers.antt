use Rattle.std.proofs.Common.{◌∙◌, ◌+◌, ◌++◌, ◌∷◌, [], set, ap, arith}
use Rattle.std.proofs.lemmas.List.{get_or_default}
use Rattle.aql_index.specs.Dealing.{shard_at}
use Rattle.aql_index.proofs.Dealt.{is_shard, rank_next, counts_next, rank_fits, ranks_next}
use Rattle.aql_index.proofs.dealing.ranks_of.Goals as goal

pub index-before-requires : goal.index-before-requires
index-before-requires c =
    let shards = c.args.shards.now in
    let i = c.loop-shard.shard-index in
    let there = is_shard shards i c.args.count c.loop-shard.counts.items c.loop-shard.invariant.counts
    (c.requires.within i 0 c.loop-shard-test.true) in
    omega (arith, there)

pub index_mut-requires : goal.index_mut-requires
index_mut-requires c =
    let shards = c.args.shards.now in
    let i = c.loop-shard.shard-index in
    let there = is_shard shards i c.args.count c.loop-shard.counts.items c.loop-shard.invariant.counts
    (c.requires.within i 0 c.loop-shard-test.true) in
    omega (arith, there)

pub overflow_add-before : goal.overflow_add-before
overflow_add-before c =
    let shards = c.args.shards.now in
    let i = c.loop-shard.shard-index in
    let counts = c.loop-shard.counts.items in
    let below = c.requires.within i 0 c.loop-shard-test.true in
    let there = is_shard shards i c.args.count counts c.loop-shard.invariant.counts below in
    let is = c.index-before.ensures ∙ get_or_default counts (shard_at shards i) _ 0 there
    ∙ rank_next shards i c.args.count counts c.loop-shard.invariant.counts below in
    let few = rank_fits shards i c.loop-shard-test.true in
    omega (arith, is, few, c.requires.few)

pub loop-shard-preserved : goal.loop-shard-preserved
loop-shard-preserved c =
    let shards = c.args.shards.now in
    let i = c.loop-shard.shard-index in
    let counts = c.loop-shard.counts.items in
    let below = c.requires.within i 0 c.loop-shard-test.true in
    let there = is_shard shards i c.args.count counts c.loop-shard.invariant.counts below in
    let read = c.index-before.ensures ∙ get_or_default counts (shard_at shards i) _ 0 there in
    let is = read ∙ rank_next shards i c.args.count counts c.loop-shard.invariant.counts below in
    record {
      ranks = c.in_ok-push.ensures.items ∙ ap (λ k. c.loop-shard.ranks.items ++ k ∷ []) is
          ∙ ranks_next shards c.loop-shard.ranks.items i c.loop-shard.invariant.ranks;
      counts = ap (λ k. set counts (shard_at shards i) (k + 1)) read
          ∙ counts_next shards i c.args.count counts c.loop-shard.invariant.counts below c.loop-shard-test.true;
    }
