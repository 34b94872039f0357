-- What servers keep of each collection: the places and the indexes of all its documents and, where there are
-- several shards, of those of each shard (Cluster: sharding; Indexing).
use Rattle.std.specs.Prelude.{ℕ, ◌==◌, List, [], map, length, cond, Option, Some, None, slice_get, unwrap_or, option_map}
use Rattle.aql_value.specs.Datum.{Datum}
use Rattle.aql_value.specs.Shards.{documents_on}
use Rattle.aql_doc.specs.Held.{Held}
use Rattle.aql_plan.specs.Facts.{numbers_below}
use Rattle.aql_index.specs.Dealing.{places_from}
use Rattle.aql_index.specs.Entries.{IndexView}
use Rattle.aql_index.specs.IndexOrder.{index_of}
use Rattle.aql_shard.specs.declared.shapes.Shape.{Shape}
use Rattle.aql_shard.specs.declared.parts.Part.{Part}
use Rattle.aql_shard.specs.declared.parts.Parts.{Parts}
use Rattle.aql_shard.specs.Known.{shapes, shard_count}
use Rattle.aql_shard.specs.Sharding.{shard_by}

-- an index of each shape over these documents
abbrev pub indexes_by : List Shape → List Datum → List IndexView
indexes_by shapes documents = map (λ (shape : Shape). index_of shape.attributes documents) shapes

abbrev pub part_of : List Shape → List ℕ → List Datum → Part
part_of shapes places documents =
    record { places = places; indexes = indexes_by shapes documents }

-- all documents of a collection
abbrev pub whole_of : List Shape → List Datum → Part
whole_of shapes documents = part_of shapes (numbers_below (length documents)) documents

-- those of a shard, of so many, by the names of the shard keys
abbrev pub shard_part : List Shape → List (List ℕ) → List Datum → ℕ → ℕ → Part
shard_part shapes keys documents shards shard = part_of shapes
    (places_from 0 shard (map (shard_by shards keys) documents))
    (documents_on shards keys shard documents)

-- each shard; one that is alone is the whole
abbrev pub shard_parts : List Shape → List (List ℕ) → List Datum → ℕ → List Part
shard_parts shapes keys documents shards =
    cond (shards == 1) [] (map (shard_part shapes keys documents shards) (numbers_below shards))

abbrev pub parts_of : ℕ → Held → Parts
parts_of servers h = record {
  whole = whole_of (shapes h.info) h.documents;
  shards = shard_parts (shapes h.info) h.info.keys h.documents (shard_count servers h.info);
}

-- the part that a reader of a collection, or of one shard of it, finds
abbrev pub part_in : Option ℕ → Parts → Part
part_in None parts = parts.whole
part_in (Some shard) parts = unwrap_or (slice_get parts.shards shard) parts.whole

abbrev pub part_at : List Parts → ℕ → Option ℕ → Option Part
part_at all coll shard = option_map (part_in shard) (slice_get all coll)
