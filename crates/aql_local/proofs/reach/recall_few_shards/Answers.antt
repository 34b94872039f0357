-- Each collection that there is was asked for its shards.
use Rattle.std.proofs.Common.{ℕ, ◌<◌, ◌^◌, below_more, subst, arith}
use Rattle.aql_shard.specs.Known.{shards_of}
use Rattle.aql_local.proofs.Reached.{few_shards}
use Rattle.aql_local.proofs.reach.recall_few_shards.Goals as goal

pub loop-coll-preserved : goal.loop-coll-preserved
loop-coll-preserved c =
    let held = c.args.servers.now in
    let few : ℕ → Type 0 = λ number. shards_of held.servers held.held number < 2 ^ 32 in
    below_more few c.loop-coll.coll c.loop-coll.invariant
    (subst (λ (n : ℕ). n < 2 ^ 32) c.shards-shards.ensures c.shards-shards.type_inv)

pub returns : goal.returns
returns c =
    let held = c.args.servers.now in
    few_shards held.servers held.held
    (λ number l. c.loop-coll.invariant number (omega (arith, c.collections-coll-end.ensures, c.loop-coll-test.false)))
