-- What the part has that a reader of a collection, or of one shard of it, finds.
use Rattle.std.proofs.Common.{◌≡◌, ◌∙◌, ℕ, zero, suc, ◌<◌, ◌≤◌, List, [], ◌∷◌, map, length, Bool, true, false, cond, Option, Some, None, refl, ap, sym, subst, arith, eqb-true}
use Rattle.std.specs.Prelude.{◌==◌, option_map, slice_get, unwrap_or}
use Rattle.std.proofs.lemmas.List.{length-map}
use Rattle.std.proofs.lemmas.Option.{slice_get-map}
use Rattle.aql_value.specs.Datum.{Datum}
use Rattle.aql_value.specs.Shards.{documents_on}
use Rattle.aql_doc.specs.Held.{Held, database, documents_at}
use Rattle.aql_plan.specs.Facts.{numbers_below}
use Rattle.aql_plan.specs.Fits.{IsShard}
use Rattle.aql_plan.specs.Runs.{Dataset}
use Rattle.aql_shard.specs.declared.shapes.Shape.{Shape}
use Rattle.aql_shard.specs.declared.parts.Part.{Part}
use Rattle.aql_shard.specs.Datasets.{documents_read}
use Rattle.aql_shard.specs.Known.{shapes, shard_count, coll_fact, facts_of}
use Rattle.aql_shard.specs.Parts.{indexes_by, whole_of, shard_part, shard_parts, parts_of, part_in, part_at}
use Rattle.aql_shard.specs.laws.ByNumber.{shapes_at}
use Rattle.aql_index.specs.laws.Numbers.{number_at}
use Rattle.aql_shard.specs.laws.Split.{on_shard_below_one}
use Rattle.aql_shard.proofs.Places.{Reads, reads_whole, reads_shard}

-- those documents of a collection, with indexes of these shapes
pub record IsPart (shapes : List Shape) (documents those : List Datum) (part : Part) : Type 0 where
  pub reads : Reads documents those part.places
  pub indexes : part.indexes ≡ indexes_by shapes those

whole_is : (ss : List Shape) (documents : List Datum) → IsPart ss documents documents (whole_of ss documents)
whole_is ss documents = record { reads = reads_whole documents; indexes = refl }

module _ (ss : List Shape) (keys : List (List ℕ)) (documents : List Datum) (shards shard : ℕ)
    (below : shard < shards) where
  abbrev IsShardIn : List Part → Type 0
  IsShardIn parts = IsPart ss documents (documents_on shards keys shard documents)
      (unwrap_or (slice_get parts shard) (whole_of ss documents))

  shard_is : IsShardIn (map (shard_part ss keys documents shards) (numbers_below shards))
  shard_is = subst (λ (o : Option Part). IsPart ss documents (documents_on shards keys shard documents)
      (unwrap_or o (whole_of ss documents)))
      (sym (slice_get-map (shard_part ss keys documents shards) (numbers_below shards) shard
      ∙ ap (option_map (shard_part ss keys documents shards)) (number_at shards shard below)))
      (record { reads = reads_shard shards keys shard documents; indexes = refl })

  found_shard : (b : Bool) → (shards == 1) ≡ b
      → IsShardIn (cond b [] (map (shard_part ss keys documents shards) (numbers_below shards)))
  found_shard true e = subst (λ ds. IsPart ss documents ds (whole_of ss documents))
      (sym (on_shard_below_one shards shard keys documents (eqb-true shards 1 e) below))
      (whole_is ss documents)
  found_shard false e = shard_is

-- several shards have parts of their own
pub several_parts : (ss : List Shape) (keys : List (List ℕ)) (documents : List Datum) (shards n : ℕ)
    (parts : List Part) → (shards ≡ 1 → ⊥) → n ≤ shards → shards ≤ n
    → parts ≡ map (shard_part ss keys documents shards) (numbers_below n)
    → parts ≡ shard_parts ss keys documents shards
several_parts ss keys documents shards n parts several most least is = by (shards == 1) refl
  where
    by : (b : Bool) → (shards == 1) ≡ b
        → parts ≡ cond b [] (map (shard_part ss keys documents shards) (numbers_below shards))
    by true e = absurd (several (eqb-true shards 1 e))
    by false e =
        let all : n ≡ shards = omega (arith, most, least) in
        is ∙ ap (λ m. map (shard_part ss keys documents shards) (numbers_below m)) all

-- ---- by the number of a collection

abbrev dataset : ℕ → List Held → Dataset
dataset servers held = record { facts = facts_of servers held; db = database held }

pub is_part : (servers : ℕ) (held : List Held) (coll : ℕ) (shard : Option ℕ)
    → IsShard (facts_of servers held) coll shard → (part : Part)
    → part_at (map (parts_of servers) held) coll shard ≡ Some part
    → IsPart (shapes_at held coll) (documents_at held coll)
    (documents_read (dataset servers held) coll shard) part
is_part servers [] coll shard there part e = cc
is_part servers (h ∷ held) zero None there part e =
    let same : whole_of (shapes h.info) h.documents ≡ part = cc in
    subst (IsPart (shapes h.info) h.documents h.documents) same (whole_is (shapes h.info) h.documents)
is_part servers (h ∷ held) zero (Some shard) there part e =
    let n = shard_count servers h.info in
    let same : part_in (Some shard) (parts_of servers h) ≡ part = cc in
    subst (IsPart (shapes h.info) h.documents (documents_on n h.info.keys shard h.documents)) same
    (found_shard (shapes h.info) h.info.keys h.documents n shard there.1 (n == 1) refl)
is_part servers (h ∷ held) (suc coll) None there part e =
    is_part servers held coll None (omega (arith, there)) part e
is_part servers (h ∷ held) (suc coll) (Some shard) there part e =
    is_part servers held coll (Some shard) (omega (arith, there.0), there.1) part e

pub has_part : (servers : ℕ) (held : List Held) (coll : ℕ) (shard : Option ℕ)
    → IsShard (facts_of servers held) coll shard → coll < length held
has_part servers held coll None there = omega (arith, length-map held (coll_fact servers), there)
has_part servers held coll (Some shard) there = omega (arith, length-map held (coll_fact servers), there.0)
