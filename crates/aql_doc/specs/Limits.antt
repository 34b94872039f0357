-- How much a catalog holds at most: collections, documents in all, and for each collection its shards, its
-- shard keys and its sorted indexes.
use Rattle.std.specs.Prelude.{◌≡◌, ◌≤◌, ℕ, List, false, length, All, AllPairs}
use Rattle.aql_doc.specs.Held.{Held, documents_in}
use Rattle.aql_doc.specs.Declarations.{are_same}
use Rattle.aql_doc.specs.declared.info.CollInfo.{CollInfo}

-- the attributes of an index, and the shard keys of a collection
abbrev pub HasOneToEight : List (List ℕ) → Type 0
HasOneToEight names = (1 ≤ length names) × (length names ≤ 8)

-- no two indexes are alike
abbrev pub AreApart : List (List (List ℕ)) → Type 0
AreApart indexes = AllPairs (λ index later. are_same index later ≡ false) indexes

pub record IsDeclared (info : CollInfo) : Type 0 where
  pub shards : (1 ≤ info.shards) × (info.shards ≤ 32)
  pub keys : HasOneToEight info.keys
  pub indexes : length info.indexes ≤ 16
  pub attributes : All HasOneToEight info.indexes
  pub apart : AreApart info.indexes

pub record IsWithinLimits (held : List Held) : Type 0 where
  pub collections : length held ≤ 64
  pub documents : documents_in held ≤ 200000
  pub declarations : All (λ h. IsDeclared h.info) held
