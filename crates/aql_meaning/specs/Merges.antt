-- The lists of several shards as one (Cluster: the gathering of query results): an interleaving, and with a
-- sort order the merge that always takes a least one of the next rows.
use Rattle.std.specs.Prelude.{ℕ, ◌≡◌, List, [], ◌∷◌, Bool, false, Some, slice_get, slice_set}
use Rattle.std.specs.List.{AllByRecursion}
use Rattle.aql_meaning.specs.Row.{Row}

-- the next row of the list, if there is one, does not come before this row
abbrev pub NotBefore : (Row → Row → Bool) → Row → List Row → Type 0
NotBefore before row [] = Unit {0}
NotBefore before row (next ∷ rest) = before next row ≡ false

-- an interleaving of all the lists: each row taken stands first in the list at some place, and the next row
-- of no list comes before it
abbrev pub Merged : (Row → Row → Bool) → List (List Row) → List Row → Type 0
Merged before lists [] = AllByRecursion (λ list. list ≡ []) lists
Merged before lists (row ∷ out) = (place : ℕ) × (rest : List Row)
    × (slice_get lists place ≡ Some (row ∷ rest))
    × AllByRecursion (NotBefore before row) lists × Merged before (slice_set lists place rest) out
