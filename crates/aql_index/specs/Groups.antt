-- Groups of entries that are equal in the first attributes of an index, so many of them.
use Rattle.std.specs.Prelude.{ℕ, List, map, filter, take, length, max, fold}
use Rattle.aql_value.specs.Contents.{list, same}
use Rattle.aql_index.specs.declared.entries.Entry.{Entry}

-- the entries that have the same first values as this one
abbrev pub alike : ℕ → List Entry → Entry → List Entry
alike width entries e =
    filter (λ (f : Entry). same (list (take width e.keys)) (list (take width f.keys))) entries

-- the size of the largest group
abbrev pub widest_of : ℕ → List Entry → ℕ
widest_of width entries = fold max 0 (map (λ e. length (alike width entries e)) entries)
