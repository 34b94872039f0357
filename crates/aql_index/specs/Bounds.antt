-- The bounds of a search in an index (Indexing): values for its first attributes, and a last bound for the
-- next one. How the program's two ends of a range make a last bound, and which values are within bounds.
use Rattle.std.specs.Prelude.{ℕ, ◌<◌, ◌≤◌, List, [], ◌∷◌, Bool, true, false, ◌&&◌, Option, Some, None}
use Rattle.aql_value.specs.Datum.{Datum}
use Rattle.aql_value.specs.Contents.{same}
use Rattle.aql_value.specs.View.{datum_of}
use Rattle.aql_meaning.specs.Documents.{End, Last, no_last, between, in_last}
use Rattle.aql_index.specs.declared.bounds.Bound.{Bound}
use Rattle.aql_index.specs.declared.bounds.Bound.TheVariants.{Free, At, Past}

-- one end of a range
abbrev pub end_of : Bound → Option (End Datum)
end_of Free = None
end_of (At v) = Some (record { limit = datum_of v; inclusive = true })
end_of (Past v) = Some (record { limit = datum_of v; inclusive = false })

-- the range between two ends; without ends it is no bound
abbrev pub range_of : Bound → Bound → Last Datum
range_of Free Free = no_last
range_of low high = between (end_of low) (end_of high)

-- an index over `width` attributes takes at most so many equal values, and fewer with a last bound
abbrev pub BoundsFit : ℕ → ℕ → Last Datum → Type 0
BoundsFit width equal no_last = equal ≤ width
BoundsFit width equal last = equal < width

-- the first of an index's values are `equal`, and the next one is in the last bound: what `in_bounds` says of
-- the document that has these values
abbrev pub keys_within : List Datum → Last Datum → List Datum → Bool
keys_within [] no_last keys = true
keys_within equal last [] = false
keys_within [] last (key ∷ keys) = in_last last key
keys_within (v ∷ equal) last (key ∷ keys) = same key v && keys_within equal last keys
