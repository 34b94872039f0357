-- How an index may be searched (Indexing): that it is there, and which bounds its kind takes.
use Rattle.std.specs.Prelude.{ℕ, ◌≡◌, ◌<◌, length, Option, MatchOption, slice_get}
use Rattle.aql_value.specs.Datum.{Datum}
use Rattle.aql_meaning.specs.Documents.{Last, no_last}
use Rattle.aql_plan.specs.declared.facts.Facts.{Facts}
use Rattle.aql_plan.specs.declared.facts.IndexFact.{IndexFact}
use Rattle.aql_plan.specs.declared.facts.IndexKind.{IndexKind}
use Rattle.aql_plan.specs.declared.facts.IndexKind.TheVariants as kind
use Rattle.aql_plan.specs.Facts.{indexes_in}
use Rattle.aql_plan.specs.Fits.{IsShard}
use Rattle.aql_index.specs.Bounds.{BoundsFit}

-- a lookup takes one value alone; a sorted index over so many attributes at most so many values, and fewer with
-- a last bound
abbrev pub SpanFits : IndexKind → ℕ → ℕ → Last Datum → Type 0
SpanFits kind.Sorted attributes equal last = BoundsFit attributes equal last
SpanFits kind.Primary attributes equal last = (equal ≡ 1) × (last ≡ no_last)
SpanFits kind.Edge attributes equal last = (equal ≡ 1) × (last ≡ no_last)

-- the elements of an array bound the attribute after those with equal values; a lookup has one attribute
abbrev pub SpansFit : IndexKind → ℕ → ℕ → Type 0
SpansFit kind.Sorted attributes equal = equal < attributes
SpansFit kind.Primary attributes equal = equal ≡ 0
SpansFit kind.Edge attributes equal = equal ≡ 0

-- the index of a collection, or of one shard of it, is there, and what is known of it is so
abbrev pub IsIndexFor : Facts → ℕ → Option ℕ → ℕ → (IndexFact → Type 0) → Type 0
IsIndexFor facts coll shard index P =
    IsShard facts coll shard × MatchOption (slice_get (indexes_in facts coll) index) ⊥ P

-- it may be searched between these bounds
abbrev pub IsSearched : Facts → ℕ → Option ℕ → ℕ → ℕ → Last Datum → Type 0
IsSearched facts coll shard index equal last =
    IsIndexFor facts coll shard index (λ i. SpanFits i.kind (length i.attributes) equal last)

-- it may be searched for the elements of an array
abbrev pub IsSearchedForEach : Facts → ℕ → Option ℕ → ℕ → ℕ → Type 0
IsSearchedForEach facts coll shard index equal =
    IsIndexFor facts coll shard index (λ i. SpansFit i.kind (length i.attributes) equal)
