-- An index dealt out over the shards of its documents (Cluster: sharding; Indexing): each shard has the entries of
-- its own documents, in the same order, where a document's place is that among the documents of its shard.
use Rattle.std.specs.Prelude.{ℕ, ◌+◌, ◌<◌, ◌==◌, List, [], ◌∷◌, map, filter, take, length, cond, Bool, slice_index_or}
use Rattle.std.specs.List.{All}
use Rattle.aql_index.specs.declared.entries.Entry.{Entry}
use Rattle.aql_index.specs.Entries.{IndexView}

-- the places of the documents of a shard, by the shards of all of them, the first of which has this place
abbrev pub places_from : ℕ → ℕ → List ℕ → List ℕ
places_from place shard [] = []
places_from place shard (s ∷ shards) =
    cond (s == shard) (place ∷ places_from (place + 1) shard shards) (places_from (place + 1) shard shards)

-- how many documents are on a shard, by the shards of all of them
abbrev pub count_on : ℕ → List ℕ → ℕ
count_on shard shards = length (filter (λ s. s == shard) shards)

-- the shard of the document at a place
abbrev pub shard_at : List ℕ → ℕ → ℕ
shard_at shards place = slice_index_or shards place 0

-- the place of a document among those of its shard: how many of them are in front of it
abbrev pub rank : List ℕ → ℕ → ℕ
rank shards place = count_on (shard_at shards place) (take place shards)

-- whether the document of an entry is on a shard, and the entry as the index of its shard has it
abbrev pub is_on : List ℕ → ℕ → Entry → Bool
is_on shards shard e = shard_at shards e.place == shard

abbrev pub ranked : List ℕ → Entry → Entry
ranked shards e = record { keys = e.keys; place = rank shards e.place }

abbrev pub entries_on : List ℕ → ℕ → List Entry → List Entry
entries_on shards shard entries = map (ranked shards) (filter (is_on shards shard) entries)

-- what of an index is dealt to a shard
abbrev pub dealt : IndexView → List ℕ → ℕ → IndexView
dealt index shards shard =
    record { width = index.width; entries = entries_on shards shard index.entries }

-- the documents of an index are so many
abbrev pub IsOver : ℕ → IndexView → Type 0
IsOver count index = All (λ (e : Entry). e.place < count) index.entries
