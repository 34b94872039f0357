-- The shards that a fragment reaches, as servers know them.
use Rattle.std.proofs.Common.{ℕ, zero, suc, ◌<◌, ◌^◌, List, [], ◌∷◌, length, arith}
use Rattle.aql_doc.specs.Held.{Held}
use Rattle.aql_plan.specs.Facts.{shards_in}
use Rattle.aql_shard.specs.Known.{facts_of, shards_of}

pub few_shards : (servers : ℕ) (held : List Held)
    → ((number : ℕ) → number < length held → shards_of servers held number < 2 ^ 32)
    → (coll : ℕ) → shards_in (facts_of servers held) coll < 2 ^ 32
few_shards servers [] f zero = omega arith
few_shards servers [] f (suc coll) = omega arith
few_shards servers (h ∷ held) f zero = f 0 (omega arith)
few_shards servers (h ∷ held) f (suc coll) =
    few_shards servers held (λ number l. f (suc number) (omega (arith, l))) coll
