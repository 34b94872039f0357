-- What is known of the collections of a catalog when a query is planned: names, kinds, numbers of documents,
-- shards, shard keys and indexes (Indexing). A collection has lookups by `_key` and by `_id`, an edge
-- collection also by `_from` and by `_to`, and then its sorted indexes as they were declared. With 0 servers
-- each collection is one shard, in one place.
use Rattle.std.specs.Prelude.{ℕ, zero, suc, List, [], ◌∷◌, ◌++◌, Bool, true, false, codes, map, slice_get, option_map, unwrap_or, length}
use Rattle.aql_value.specs.Datum.{Datum}
use Rattle.aql_doc.specs.declared.info.CollInfo.{CollInfo}
use Rattle.aql_doc.specs.Held.{Held}
use Rattle.aql_plan.specs.declared.facts.IndexKind.{IndexKind}
use Rattle.aql_plan.specs.declared.facts.IndexKind.TheVariants.{Primary, Edge, Sorted}
use Rattle.aql_plan.specs.declared.facts.IndexFact.{IndexFact}
use Rattle.aql_plan.specs.declared.facts.CollFact.{CollFact}
use Rattle.aql_plan.specs.declared.facts.Facts.{Facts}
use Rattle.aql_plan.specs.Facts.{widths_of}
use Rattle.aql_shard.specs.declared.shapes.Shape.{Shape}

-- ---- indexes

abbrev pub lookup : IndexKind → List ℕ → Shape
lookup kind name = record { kind = kind; attributes = name ∷ [] }

abbrev pub sorted_by : List (List ℕ) → Shape
sorted_by attributes = record { kind = Sorted; attributes = attributes }

-- the lookups of a collection, by whether it has edges
abbrev pub lookups : Bool → List Shape
lookups false = lookup Primary (codes "_key") ∷ lookup Primary (codes "_id") ∷ []
lookups true = lookup Primary (codes "_key") ∷ lookup Primary (codes "_id")
    ∷ lookup Edge (codes "_from") ∷ lookup Edge (codes "_to") ∷ []

-- all indexes of a collection, in order
abbrev pub shapes : CollInfo → List Shape
shapes info = lookups info.edge ++ map sorted_by info.indexes

-- what is known of an index of these documents
abbrev pub index_fact : List Datum → Shape → IndexFact
index_fact documents shape = record {
  kind = shape.kind;
  attributes = shape.attributes;
  widths = widths_of shape.attributes documents;
}

-- ---- collections

-- how many shards a collection has: those of its declaration, if there are servers
abbrev pub shard_count : ℕ → CollInfo → ℕ
shard_count zero info = 1
shard_count (suc servers) info = info.shards

-- what is known of a collection, on so many servers
abbrev pub coll_fact : ℕ → Held → CollFact
coll_fact servers h = record {
  name = h.info.name;
  edge = h.info.edge;
  documents = length h.documents;
  shards = shard_count servers h.info;
  keys = h.info.keys;
  indexes = map (index_fact h.documents) (shapes h.info);
}

-- what is known of all collections
abbrev pub facts_of : ℕ → List Held → Facts
facts_of servers held = record { servers = servers; collections = map (coll_fact servers) held }

-- the shards of the collection with this number: none where it is not declared
abbrev pub shards_of : ℕ → List Held → ℕ → ℕ
shards_of servers held number =
    unwrap_or (option_map (λ (h : Held). shard_count servers h.info) (slice_get held number)) 0
