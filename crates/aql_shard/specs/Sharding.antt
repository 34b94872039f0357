-- Where the documents of a collection are (Cluster: sharding): each on the shard of its shard-key values, and
-- each shard on a server.
use Rattle.std.specs.Prelude.{ℕ, ◌+◌, ◌%◌, List, map}
use Rattle.aql_value.specs.Datum.{Datum}
use Rattle.aql_value.specs.Contents.{at_name}
use Rattle.aql_value.specs.Shards.{shard_of}

-- the server, of so many, that has a shard of the collection with this number
abbrev pub server_of : ℕ → ℕ → ℕ → ℕ
server_of collection shard servers = (collection + shard) % servers

-- the shard of a document, of so many, by the names of the shard keys
abbrev pub shard_by : ℕ → List (List ℕ) → Datum → ℕ
shard_by shards keys document = shard_of shards (map (at_name document) keys)
