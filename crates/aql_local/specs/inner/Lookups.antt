-- Lookups by a system attribute (Accessing data from collections; Indexing, primary and edge index).
use Rattle.std.specs.Prelude.{ℕ, ◌<◌, List, Bool, codes, length, flat_map, None}
use Rattle.aql_value.specs.Datum.{Datum, text}
use Rattle.aql_value.specs.Contents.{at_name, same}
use Rattle.aql_value.specs.Database.{Database, Collection}
use Rattle.aql_plan.specs.declared.facts.Facts.{Facts}
use Rattle.aql_plan.specs.Fits.{IsEdgeCollection}
use Rattle.aql_plan.specs.Runs.{Dataset, Outside}
use Rattle.aql_index.specs.Found.{in_order_of}
use Rattle.aql_local.specs.declared.lookups.SystemAttribute.{SystemAttribute}
use Rattle.aql_local.specs.declared.lookups.SystemAttribute.TheVariants.{Id, From, To}

abbrev pub name_of : SystemAttribute → List ℕ
name_of Id = codes "_id"
name_of From = codes "_from"
name_of To = codes "_to"

-- the number of the index over it
abbrev pub index_by : SystemAttribute → ℕ
index_by Id = 1
index_by From = 2
index_by To = 3

-- a collection has that index: each the one by `_id`, and those with edges both others
abbrev pub HasIndexBy : SystemAttribute → Facts → ℕ → Type 0
HasIndexBy Id facts coll = coll < length facts.collections
HasIndexBy From facts coll = IsEdgeCollection facts coll
HasIndexBy To facts coll = IsEdgeCollection facts coll

-- the documents of a collection in the order of that index
abbrev pub order_by : SystemAttribute → Dataset → ℕ → List Datum
order_by attribute w coll = in_order_of w Outside coll None (index_by attribute)

-- the documents of all collections, and whether one has this `_id`
abbrev pub all_documents : Database → List Datum
all_documents db = flat_map (λ (c : Collection). c.documents) db

abbrev pub has_id : List ℕ → Datum → Bool
has_id id d = same (at_name d (codes "_id")) (text id)
