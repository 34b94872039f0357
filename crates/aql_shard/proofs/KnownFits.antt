-- What is known of a catalog, collection by collection.
use Rattle.std.proofs.Common.{◌≡◌, ◌∙◌, ℕ, zero, suc, ◌+◌, ◌≤◌, List, [], ◌∷◌, map, length, refl, arith}
use Rattle.std.specs.List.{AllZip, AllByRecursion}
use Rattle.std.proofs.lemmas.List.{length-map}
use Rattle.std.proofs.lemmas.List.Elements.{recursion_from_All}
use Rattle.std.specs.Prelude.{take}
use Rattle.aql_value.specs.Datum.{Datum}
use Rattle.aql_doc.specs.declared.info.CollInfo.{CollInfo}
use Rattle.aql_doc.specs.Held.{Held}
use Rattle.aql_doc.specs.Limits.{IsDeclared}
use Rattle.aql_plan.specs.declared.facts.IndexFact.{IndexFact}
use Rattle.aql_plan.specs.Facts.{widest, widths_of, numbers_below}
use Rattle.aql_plan.specs.WellFormed.{CollectionFits}
use Rattle.aql_shard.specs.declared.shapes.Shape.{Shape}
use Rattle.aql_shard.specs.Known.{shapes, index_fact, shard_count, coll_fact}
use Rattle.aql_shard.specs.Theorem.{SameNameAndKind, FactsFit}
use Rattle.aql_index.specs.laws.Numbers.{length-numbers_below}

-- one more than there are attributes
width_for_each : (names : List (List ℕ)) (documents : List Datum)
    → length (widths_of names documents) ≡ length names + 1
width_for_each names documents =
    length-map (numbers_below (length names + 1)) (λ width. widest (take width names) documents)
    ∙ length-numbers_below (length names + 1)

all_widths : (documents : List Datum) (all : List Shape)
    → AllByRecursion (λ (i : IndexFact). length i.widths ≡ length i.attributes + 1)
    (map (index_fact documents) all)
all_widths documents [] = tt
all_widths documents (s ∷ all) = (width_for_each s.attributes documents, all_widths documents all)

pub some_shards : (servers : ℕ) (info : CollInfo) → IsDeclared info → 1 ≤ shard_count servers info
some_shards zero info d = omega arith
some_shards (suc servers) info d = d.shards.0

collections_fit : (servers : ℕ) (held : List Held) → AllByRecursion (λ h. IsDeclared h.info) held
    → AllByRecursion CollectionFits (map (coll_fact servers) held)
collections_fit servers [] d = tt
collections_fit servers (h ∷ held) d = (
  (some_shards servers h.info d.0, d.0.keys.0, d.0.keys.1, all_widths h.documents (shapes h.info)),
  collections_fit servers held d.1,
)

same_collections : (servers : ℕ) (held : List Held)
    → AllZip SameNameAndKind (map (coll_fact servers) held) held
same_collections servers [] = tt
same_collections servers (h ∷ held) = ((refl, refl), same_collections servers held)

pub facts_fit : FactsFit
facts_fit servers held w = (
  collections_fit servers held (recursion_from_All (λ (h : Held). IsDeclared h.info) held w.declarations),
  same_collections servers held,
  omega (arith, length-map held (coll_fact servers), w.collections),
)
