-- A database: its collections in the order of their declaration, each with its documents in the order of the
-- script, `_key` and `_id` filled in (AQL fundamentals, Accessing data from collections).
-- It knows no shard and no index.
use Rattle.std.specs.Prelude.{ℕ, List, [], ◌∷◌, Bool, cond, bytes_eq, slice_get, option_map, unwrap_or}
use Rattle.aql_value.specs.Datum.{Datum}

-- a document or edge collection
pub record Collection : Type 0 where
  pub name : List ℕ
  pub edge : Bool
  pub documents : List Datum

abbrev pub Database : Type 0
Database = List Collection

-- the documents of the collection with this name; none where there is no such collection
abbrev pub documents_named : Database → List ℕ → List Datum
documents_named [] name = []
documents_named (c ∷ db) name = cond (bytes_eq c.name name) c.documents (documents_named db name)

-- the documents of the collection with this number
abbrev pub documents_of : Database → ℕ → List Datum
documents_of db number = unwrap_or (option_map (λ (c : Collection). c.documents) (slice_get db number)) []
