-- What is known of a catalog is true of its documents, and one shard alone has all of them.
use Rattle.std.proofs.Common.{◌≡◌, ℕ, zero, suc, List, [], ◌∷◌, map, length, cond, Some, None, refl, ap, ap₂, ◌∙◌, arith}
use Rattle.std.specs.Prelude.{◌==◌, ◌<◌, ◌≤◌}
use Rattle.std.proofs.Math.Nat.{mod-one}
use Rattle.std.proofs.lemmas.List.{length-map}
use Rattle.std.proofs.lemmas.Nat.{mod_below}
use Rattle.aql_value.specs.Datum.{Datum}
use Rattle.aql_value.specs.Contents.{list, at_name}
use Rattle.aql_value.specs.Json.{json_text}
use Rattle.aql_value.specs.Database.{documents_of}
use Rattle.aql_value.specs.Shards.{fnv, shard_of, documents_on}
use Rattle.aql_doc.specs.Held.{Held, database, documents_at}
use Rattle.aql_plan.specs.declared.facts.IndexFact.{IndexFact}
use Rattle.aql_plan.specs.Facts.{Meets, widths_of}
use Rattle.aql_plan.specs.Fits.{IsShard}
use Rattle.aql_shard.specs.declared.shapes.Shape.{Shape}
use Rattle.aql_shard.specs.Known.{shapes, index_fact, coll_fact, facts_of, shards_of}

-- ---- what is known is true

same_widths : (documents : List Datum) (all : List Shape)
    → map (λ (i : IndexFact). i.widths) (map (index_fact documents) all)
    ≡ map (λ (i : IndexFact). widths_of i.attributes documents) (map (index_fact documents) all)
same_widths documents [] = refl
same_widths documents (s ∷ all) = ap (λ ws. widths_of s.attributes documents ∷ ws) (same_widths documents all)

pub split_meets : (servers : ℕ) (held : List Held) → Meets (facts_of servers held) (database held)
split_meets servers [] = tt
split_meets servers (h ∷ held) =
    ((refl, refl, refl, same_widths h.documents (shapes h.info)), split_meets servers held)

-- ---- the documents of a collection, and of one shard that is alone

pub documents_same : (held : List Held) (number : ℕ) → documents_of (database held) number
    ≡ documents_at held number
documents_same [] number = refl
documents_same (h ∷ held) zero = refl
documents_same (h ∷ held) (suc number) = documents_same held number

pub only_shard : (values : List Datum) → shard_of 1 values ≡ 0
unfolding shard_of
only_shard values = mod-one (fnv (json_text (list values)))

pub all_on_one : (keys : List (List ℕ)) (documents : List Datum) → documents_on 1 keys 0 documents ≡ documents
all_on_one keys [] = refl
all_on_one keys (d ∷ documents) = ap₂ (λ (b : ℕ) rest. cond (b == 0) (d ∷ rest) rest)
    (only_shard (map (at_name d) keys)) (all_on_one keys documents)

pub on_shard_below_one : (shards shard : ℕ) (keys : List (List ℕ)) (documents : List Datum) → shards ≡ 1
    → shard < shards → documents_on shards keys shard documents ≡ documents
on_shard_below_one shards shard keys documents one below =
    let none : shard ≡ 0 = omega (arith, one, below) in
    ap₂ (λ n k. documents_on n keys k documents) one none ∙ all_on_one keys documents

-- ---- which shards there are

pub shard_below : (shards : ℕ) (values : List Datum) → 1 ≤ shards → shard_of shards values < shards
unfolding shard_of
shard_below shards values h = mod_below (fnv (json_text (list values))) shards (omega (arith, h))

pub is_collection : (servers : ℕ) (held : List Held) (coll : ℕ) → coll < length held
    → IsShard (facts_of servers held) coll None
is_collection servers held coll h = omega (arith, h, length-map held (coll_fact servers))

pub is_shard : (servers : ℕ) (held : List Held) (coll shard : ℕ) → shard < shards_of servers held coll
    → IsShard (facts_of servers held) coll (Some shard)
is_shard servers [] coll shard h = absurd (omega (arith, h))
is_shard servers (h ∷ held) zero shard below = (omega arith, below)
is_shard servers (h ∷ held) (suc coll) shard below =
    let there = is_shard servers held coll shard below in
    (omega (arith, there.0), there.1)
