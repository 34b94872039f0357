use Rattle.std.proofs.Common.{◌∙◌, ◌<◌, List, ℕ, map, ap, sym, subst}
use Rattle.std.specs.Prelude.{All}
use Rattle.aql_plan.specs.Facts.{numbers_below}
use Rattle.aql_index.specs.Dealing.{dealt}
use Rattle.aql_shard.specs.Sharding.{shard_by}
use Rattle.aql_shard.proofs.Dealt.{one_dealt, dealt_all, all_below}
use Rattle.aql_shard.proofs.parts.build_shards.Goals as goal

pub deal_out-requires-clause-within : goal.deal_out-requires-clause-within
deal_out-requires-clause-within c =
    let are = c.as_slice-in-loop-index.ensures ∙ c.in_ok-of.ensures
    ∙ ap (map (shard_by c.args.shards c.args.keys.now)) c.as_slice.ensures in
    subst (λ (of : List ℕ). All (λ shard. shard < c.args.shards) of) (sym are)
    (all_below c.args.shards c.args.keys.now c.args.documents.now c.requires.shards)

pub loop-index-preserved : goal.loop-index-preserved
loop-index-preserved c =
    let are = c.as_slice-in-loop-index.ensures ∙ c.in_ok-of.ensures
    ∙ ap (map (shard_by c.args.shards c.args.keys.now)) c.as_slice.ensures in
    let dealt_is = c.in_ok-dealt.ensures
    ∙ ap (λ (of : List ℕ). map (dealt c.index-item.result of) (numbers_below c.args.shards)) are in
    c.in_ok-hand_out.ensures
    ∙ one_dealt c.args.indexes.now (map (shard_by c.args.shards c.args.keys.now) c.args.documents.now)
    c.args.shards c.loop-index.index-index c.index-item.result c.loop-index.parts c.in_ok-dealt.dealt.items
    c.loop-index-test.true c.index-item.is c.loop-index.invariant dealt_is

pub returns : goal.returns
returns c = λ shapes are. dealt_all shapes c.args.keys.now c.args.documents.now c.args.shards c.args.indexes.now are
    c.loop-index.index-index c.loop-index-test.false c.if-shards-eq1.false c.loop-index.parts c.loop-index.invariant
