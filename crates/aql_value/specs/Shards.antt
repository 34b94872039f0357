-- How the documents of a collection are split over shards (Cluster: sharding). A document's shard is found by
-- FNV-1a of 64 bits of the canonical JSON of the array of its shard-key values.
use Rattle.std.specs.Prelude.{ℕ, ◌*◌, ◌%◌, ◌^◌, ◌==◌, List, map, filter, fold, bit_xor}
use Rattle.aql_value.specs.Datum.{Datum}
use Rattle.aql_value.specs.Contents.{list, at_name}
use Rattle.aql_value.specs.Json.{json_text}

-- FNV-1a, from the offset basis on: byte by byte an exclusive or, and a product with the prime that wraps
abbrev pub fnv : List ℕ → ℕ
fnv bytes = fold (λ hash byte. (bit_xor hash byte * 1099511628211) % 2 ^ 64) 14695981039346656037 bytes

-- the shard, of so many, of a document with these values of the shard keys
unfoldable pub shard_of : ℕ → List Datum → ℕ
shard_of shards values = fnv (json_text (list values)) % shards

-- the documents of one shard, by the names of the shard keys; an attribute that a document lacks counts as
-- null
abbrev pub documents_on : ℕ → List (List ℕ) → ℕ → List Datum → List Datum
documents_on shards keys shard documents =
    filter (λ document. shard_of shards (map (at_name document) keys) == shard) documents
