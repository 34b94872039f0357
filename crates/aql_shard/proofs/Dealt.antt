-- The indexes of a collection, dealt out to the parts of its shards.
use Rattle.std.proofs.Common.{◌≡◌, ◌∙◌, ◌+◌, ◌<◌, ◌≤◌, ℕ, List, [], ◌∷◌, ◌++◌, length, map, take, set, get_or, length-append, refl, sym, ap, ap₂, arith}
use Rattle.std.specs.List.{All, AllByRecursion}
use Rattle.std.proofs.lemmas.List.{length-map, length-set, map_more, take_all}
use Rattle.std.proofs.lemmas.List.Elements.{All-from_recursion}
use Rattle.aql_value.specs.Datum.{Datum}
use Rattle.aql_value.specs.Contents.{at_name}
use Rattle.aql_value.specs.Shards.{documents_on}
use Rattle.aql_plan.specs.Facts.{numbers_below}
use Rattle.aql_index.specs.Dealing.{places_from, dealt, IsOver}
use Rattle.aql_index.specs.Entries.{IndexView}
use Rattle.aql_index.specs.IndexOrder.{index_of}
use Rattle.aql_index.specs.laws.Dealing.{dealt_is_of_documents, is_over}
use Rattle.aql_shard.specs.declared.shapes.Shape.{Shape}
use Rattle.aql_shard.specs.declared.parts.Part.{Part}
use Rattle.aql_shard.specs.Parts.{indexes_by, shard_part, shard_parts}
use Rattle.aql_shard.specs.Sharding.{shard_by}
use Rattle.aql_shard.specs.inner.Dealt.{part_dealt, with_index, handed}
use Rattle.aql_shard.specs.laws.Split.{shard_below}
use Rattle.aql_shard.proofs.Kept.{several_parts}
use Rattle.aql_shard.proofs.Places.{reads_shard}

-- ---- one list of indexes

-- the last one goes to the part at its place
last_handed : (parts : List Part) (indexes : List IndexView) (index : IndexView) (part : Part)
    → length indexes < length parts → part ≡ get_or parts (length indexes) part
    → handed (set parts (length indexes) (with_index part index)) indexes ≡ handed parts (indexes ++ index ∷ [])
last_handed [] indexes index part l e = absurd (omega (arith, l))
last_handed (p ∷ parts) [] index part l e = no_more (with_index part index) (with_index p index) parts
    (ap (λ (q : Part). with_index q index) e)
  where
    no_more : (q r : Part) (ps : List Part) → q ≡ r → q ∷ ps ≡ r ∷ handed ps []
    no_more q r [] h = ap (λ (x : Part). x ∷ []) h
    no_more q r (x ∷ ps) h = ap (λ (y : Part). y ∷ x ∷ ps) h
last_handed (p ∷ parts) (i ∷ indexes) index part l e =
    ap (λ ps. with_index p i ∷ ps) (last_handed parts indexes index part (omega (arith, l)) e)

-- as the program does it, where a part is written with its list of indexes
pub handed_next : (parts goal : List Part) (all rest : List IndexView) (index : IndexView) (place : ℕ) (part : Part)
    (now : List IndexView) → handed parts all ≡ goal → length all ≤ length parts → all ≡ rest ++ index ∷ []
    → place ≡ length rest → part ≡ get_or parts place part
    → now ≡ (get_or parts place part).indexes ++ index ∷ []
    → (handed (set parts place (record { places = (get_or parts place part).places; indexes = now })) rest ≡ goal)
    × (length rest
    ≤ length (set parts place (record { places = (get_or parts place part).places; indexes = now })))
handed_next parts goal all rest index place part now so_far within popped at there pushed =
    let more = length-append rest (index ∷ []) in
    let fits : length rest < length parts = omega (arith, within, ap length popped, more) in (
      ap (λ (vs : List IndexView). handed (set parts place
          (record { places = (get_or parts place part).places; indexes = vs })) rest) pushed
          ∙ ap (λ (p : Part). handed (set parts place (with_index p index)) rest) (sym there)
          ∙ ap (λ k. handed (set parts k (with_index part index)) rest) at
          ∙ last_handed parts rest index part fits (there ∙ ap (λ k. get_or parts k part) at)
          ∙ ap (handed parts) (sym popped) ∙ so_far,
      omega (
        arith,
        fits,
        length-set parts place
            (record { places = (get_or parts place part).places; indexes = now }),
      ),
    )

pub none_handed : (parts : List Part) → handed parts [] ≡ parts
none_handed [] = refl
none_handed (p ∷ parts) = refl

handed_each : (f : ℕ → Part) (g : ℕ → IndexView) (ns : List ℕ)
    → handed (map f ns) (map g ns) ≡ map (λ n. with_index (f n) (g n)) ns
handed_each f g [] = refl
handed_each f g (n ∷ ns) = ap (λ ps. with_index (f n) (g n) ∷ ps) (handed_each f g ns)

-- ---- one index after another

pub one_dealt : (indexes : List IndexView) (of : List ℕ) (shards i : ℕ) (index : IndexView) (parts : List Part)
    (given : List IndexView) → i < length indexes → index ≡ get_or indexes i index
    → parts ≡ map (part_dealt (take i indexes) of) (numbers_below shards)
    → given ≡ map (dealt index of) (numbers_below shards)
    → handed parts given ≡ map (part_dealt (take (i + 1) indexes) of) (numbers_below shards)
one_dealt indexes of shards i index parts given l there are is =
    ap₂ handed are is
    ∙ handed_each (part_dealt (take i indexes) of) (dealt index of) (numbers_below shards)
    ∙ each (numbers_below shards)
  where
    each : (ns : List ℕ) → map (λ n. with_index (part_dealt (take i indexes) of n) (dealt index of n)) ns
        ≡ map (part_dealt (take (i + 1) indexes) of) ns
    each [] = refl
    each (n ∷ ns) = ap₂ (λ (p : Part) ps. p ∷ ps)
        (ap (λ (vs : List IndexView). record { places = places_from 0 n of; indexes = vs })
        (ap (λ (v : IndexView). map (λ (w : IndexView). dealt w of n) (take i indexes) ++ dealt v of n ∷ []) there
        ∙ sym (map_more (λ (w : IndexView). dealt w of n) indexes i index l)))
        (each ns)

-- ---- all of them

module _ (shapes : List Shape) (keys : List (List ℕ)) (documents : List Datum) (shards : ℕ) where
  abbrev of : List ℕ
  of = map (shard_by shards keys) documents

  dealt_each : (shard : ℕ) (ss : List Shape)
      → map (λ (index : IndexView). dealt index of shard) (indexes_by ss documents)
      ≡ indexes_by ss (documents_on shards keys shard documents)
  dealt_each shard [] = refl
  dealt_each shard (s ∷ ss) = ap₂ (λ (v : IndexView) vs. v ∷ vs)
      (dealt_is_of_documents s.attributes documents of shard (length-map documents (shard_by shards keys))
      ∙ ap (index_of s.attributes) (reads_shard shards keys shard documents).exactly)
      (dealt_each shard ss)

  all_dealt : (ns : List ℕ) → map (part_dealt (indexes_by shapes documents) of) ns
      ≡ map (shard_part shapes keys documents shards) ns
  all_dealt [] = refl
  all_dealt (n ∷ ns) = ap₂ (λ (p : Part) ps. p ∷ ps)
      (ap (λ (vs : List IndexView). record { places = places_from 0 n of; indexes = vs }) (dealt_each n shapes))
      (all_dealt ns)

  pub dealt_all : (indexes : List IndexView) → indexes ≡ indexes_by shapes documents
      → (i : ℕ) → length indexes ≤ i → (shards ≡ 1 → ⊥) → (parts : List Part)
      → parts ≡ map (part_dealt (take i indexes) of) (numbers_below shards)
      → parts ≡ shard_parts shapes keys documents shards
  dealt_all indexes are i most several parts is =
      several_parts shapes keys documents shards shards parts several (omega arith) (omega arith)
      (is ∙ ap (λ (vs : List IndexView). map (part_dealt vs of) (numbers_below shards))
      (take_all i indexes most ∙ are)
      ∙ all_dealt (numbers_below shards))

-- ---- the shards of the documents, and the documents of the indexes

below_each : (shards : ℕ) (keys : List (List ℕ)) → 1 ≤ shards → (documents : List Datum)
    → AllByRecursion (λ shard. shard < shards) (map (shard_by shards keys) documents)
below_each shards keys h [] = tt
below_each shards keys h (d ∷ documents) =
    (shard_below shards (map (at_name d) keys) h, below_each shards keys h documents)

pub all_below : (shards : ℕ) (keys : List (List ℕ)) (documents : List Datum) → 1 ≤ shards
    → All (λ shard. shard < shards) (map (shard_by shards keys) documents)
all_below shards keys documents h = All-from_recursion _ _ (below_each shards keys h documents)

over_each : (documents : List Datum) (ss : List Shape)
    → AllByRecursion (IsOver (length documents)) (indexes_by ss documents)
over_each documents [] = tt
over_each documents (s ∷ ss) = (is_over s.attributes documents, over_each documents ss)

pub all_over : (documents : List Datum) (ss : List Shape)
    → All (IsOver (length documents)) (indexes_by ss documents)
all_over documents ss = All-from_recursion _ _ (over_each documents ss)
