-- The parts of shards while the indexes of the whole are dealt out to them; for private clauses.
use Rattle.std.specs.Prelude.{ℕ, List, [], ◌∷◌, ◌++◌, map}
use Rattle.aql_index.specs.Dealing.{places_from, dealt}
use Rattle.aql_index.specs.Entries.{IndexView}
use Rattle.aql_shard.specs.declared.parts.Part.{Part}

-- the part of a shard, by the shards of all documents, with what is dealt to it of these indexes
abbrev pub part_dealt : List IndexView → List ℕ → ℕ → Part
part_dealt indexes of shard = record {
  places = places_from 0 shard of;
  indexes = map (λ (index : IndexView). dealt index of shard) indexes;
}

abbrev pub with_index : Part → IndexView → Part
with_index part index = record { places = part.places; indexes = part.indexes ++ index ∷ [] }

-- each part with the index at its place; where there is none, the part stays as it is
abbrev pub handed : List Part → List IndexView → List Part
handed [] indexes = []
handed (part ∷ parts) [] = part ∷ parts
handed (part ∷ parts) (index ∷ indexes) = with_index part index ∷ handed parts indexes
