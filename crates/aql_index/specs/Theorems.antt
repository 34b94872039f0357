-- What an index says of the documents that it was built of (Indexing), each the contract of a function.
use Rattle.std.specs.Prelude.{◌≡◌, ℕ, List, Option, Bool, false, take, filter, flat_map, length}
use Rattle.aql_value.specs.Datum.{Datum}
use Rattle.aql_tree.specs.Tree.{ExprTree, ExprTrees}
use Rattle.aql_meaning.specs.Documents.{Last, in_bounds, InIndexOrder}
use Rattle.aql_meaning.specs.Row.{Row}
use Rattle.aql_plan.specs.Facts.{widest}
use Rattle.aql_plan.specs.Plan.{Reading}
use Rattle.aql_plan.specs.Runs.{Dataset, Site, Indexed}
use Rattle.aql_index.specs.declared.bounds.Span.{Span}
use Rattle.aql_index.specs.Dealing.{places_from, dealt}
use Rattle.aql_index.specs.Entries.{standing_at, entries_within}
use Rattle.aql_index.specs.IndexOrder.{index_entries, in_index_order, index_of}
use Rattle.aql_index.specs.Spans.{spanned}
use Rattle.aql_index.specs.Groups.{widest_of}
use Rattle.aql_index.specs.Found.{found_rows}

-- the documents of the entries are those of the collection, each once, and ascend by the index's attributes
abbrev pub DocumentsAreInOrder : Type 0
DocumentsAreInOrder = (names : List (List ℕ)) (documents : List Datum)
    → InIndexOrder names false documents (in_index_order names documents)

-- a span of exactly the entries within some bounds is one of exactly the documents in them
abbrev pub SpanIsOfDocuments : Type 0
SpanIsOfDocuments = (names : List (List ℕ)) (documents : List Datum) (equal : List Datum)
    (last : Last Datum) (span : Span)
    → spanned (index_entries names documents) span
    ≡ entries_within equal last (index_entries names documents)
    → spanned (in_index_order names documents) span
    ≡ filter (in_bounds names equal last) (in_index_order names documents)

-- and so are several spans
abbrev pub SpansAreOfDocuments : Type 0
SpansAreOfDocuments = (names : List (List ℕ)) (documents : List Datum) (equal : List Datum)
    (last : Last Datum) (spans : List Span)
    → flat_map (spanned (index_entries names documents)) spans
    ≡ entries_within equal last (index_entries names documents)
    → flat_map (spanned (in_index_order names documents)) spans
    ≡ filter (in_bounds names equal last) (in_index_order names documents)

-- the largest group of entries is as large as the largest group of documents, as plans know it of the index
abbrev pub WidestIsOfDocuments : Type 0
WidestIsOfDocuments = (names : List (List ℕ)) (documents : List Datum) (width : ℕ)
    → widest_of width (index_entries names documents) ≡ widest (take width names) documents

-- row after row the documents in the bounds, in the order of the index or against it, are what an Index gives
abbrev pub FoundIsIndexed : Type 0
FoundIsIndexed = (w : Dataset) (site : Site) (x : Reading) (index : ℕ) (equal : ExprTrees)
    (last : Last ExprTree) (ordered : Option Bool) (rows : List Row)
    → Indexed w site x index equal last ordered rows
    (found_rows w site x index equal last ordered rows)

-- what is dealt to a shard of an index of documents is the index of the documents on that shard
abbrev pub DealtIsOfDocuments : Type 0
DealtIsOfDocuments = (names : List (List ℕ)) (documents : List Datum) (shards : List ℕ) (shard : ℕ)
    → length shards ≡ length documents
    → dealt (index_of names documents) shards shard
    ≡ index_of names (standing_at documents (places_from 0 shard shards))
