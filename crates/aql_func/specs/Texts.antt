-- Texts: their characters, search and splitting (the chapter of the AQL manual on string functions). A text
-- is the list of its UTF-8 bytes; lengths and places count characters.
use Rattle.std.specs.Prelude.{ℕ, zero, suc, ℤ, List, [], ◌∷◌, ◌++◌, Bool, cond, ◌-◌, length, drop, map, chars, encode_utf8_all, encode_utf8, Option}
use Rattle.std.specs.List.{list_any, starts_with}
use Rattle.std.specs.Bool.{nat_eq}
use Rattle.aql_value.specs.Datum.{Datum}
use Rattle.aql_func.specs.Lists.{at_most, index_from}

-- the text of what f makes of a text's characters
abbrev pub by_characters : (List ℕ → List ℕ) → List ℕ → List ℕ
by_characters f s = encode_utf8_all (f (chars s))

-- from a place on, at most so many characters where a number is given
abbrev pub substring : ℤ → Option Datum → List ℕ → List ℕ
substring start count s = by_characters (λ cs. at_most count (drop (index_from (length cs) start) cs)) s

-- what is left of the list after each of its starts, the list itself first
abbrev pub suffixes : List ℕ → List (List ℕ)
suffixes [] = [] ∷ []
suffixes (c ∷ cs) = (c ∷ cs) ∷ suffixes cs

abbrev pub begins_with : List ℕ → List ℕ → Bool
begins_with s u = starts_with nat_eq s u

-- u occurs in s
abbrev pub occurs_in : List ℕ → List ℕ → Bool
occurs_in s u = list_any (λ t. begins_with t u) (suffixes s)

abbrev pub onto_first : ℕ → List (List ℕ) → List (List ℕ)
onto_first c [] = (c ∷ []) ∷ []
onto_first c (p ∷ ps) = (c ∷ p) ∷ ps

-- the parts of s between the occurrences of u, the leftmost first; the first `passed` bytes belong to the
-- occurrence before s
abbrev pub parts_after : ℕ → List ℕ → List ℕ → List (List ℕ)
parts_after passed u [] = [] ∷ []
parts_after zero u (c ∷ cs) = cond (begins_with (c ∷ cs) u)
    ([] ∷ parts_after (length u - 1) u cs) (onto_first c (parts_after zero u cs))
parts_after (suc passed) u (c ∷ cs) = parts_after passed u cs

-- an empty separator splits into characters
abbrev pub parts_of : List ℕ → List ℕ → List (List ℕ)
parts_of [] s = map encode_utf8 (chars s)
parts_of (c ∷ u) s = parts_after 0 (c ∷ u) s

-- texts one after another, with the separator between
abbrev pub join_by : List ℕ → List (List ℕ) → List ℕ
join_by separator [] = []
join_by separator (s ∷ []) = s
join_by separator (s ∷ t ∷ ss) = s ++ (separator ++ join_by separator (t ∷ ss))
