-- Lists of values: their order, their distinct values, their parts, and what is added to them (the chapter
-- of the AQL manual on array functions).
use Rattle.std.specs.Prelude.{ℕ, zero, suc, ℤ, pos, negsuc, ◌+◌, ◌-◌, List, [], ◌∷◌, ◌++◌, Bool, cond, not, ◌&&◌, filter, flat_map, fold, length, take, drop, Option, None, Some, unwrap_or, slice_get}
use Rattle.std.specs.List.{list_any, list_all}
use Rattle.aql_value.specs.Datum.{Datum, null, array}
use Rattle.aql_value.specs.Contents.{is_below, is_in, same, datum_list}
use Rattle.aql_value.specs.Convert.{to_number}

-- t in its place among ascending values
abbrev pub among : Datum → List Datum → List Datum
among t [] = t ∷ []
among t (u ∷ us) = cond (is_below u t) (u ∷ among t us) (t ∷ u ∷ us)

abbrev pub sort_values : List Datum → List Datum
sort_values [] = []
sort_values (t ∷ ts) = among t (sort_values ts)

-- each value at its first place alone
abbrev pub firsts : List Datum → List Datum
firsts [] = []
firsts (t ∷ ts) = t ∷ filter (λ u. not (same t u)) (firsts ts)

-- the distinct values, ascending
abbrev pub distinct : List Datum → List Datum
distinct ts = sort_values (firsts ts)

-- the values that are in all the other lists, and those that are in none of them
abbrev pub in_all : List (List Datum) → List Datum → List Datum
in_all others ts = filter (λ t. list_all (λ us. is_in us t) others) ts

abbrev pub in_none : List (List Datum) → List Datum → List Datum
in_none others ts = filter (λ t. not (list_any (λ us. is_in us t) others)) ts

-- arrays inside opened, to a depth
abbrev pub flatten_value : ℕ → Datum → List Datum
flatten_value zero t = t ∷ []
flatten_value (suc depth) (array ts) = flat_map (flatten_value depth) (datum_list ts)
flatten_value (suc depth) t = t ∷ []

abbrev pub flatten : ℕ → List Datum → List Datum
flatten depth ts = flat_map (flatten_value depth) ts

-- u at the end; with `once` only where the list doesn't have it
abbrev pub add : Bool → List Datum → Datum → List Datum
add once ts u = cond (once && is_in ts u) ts (ts ++ u ∷ [])

abbrev pub add_all : Bool → List Datum → List Datum → List Datum
add_all once ts us = fold (add once) ts us

-- where a number points in a list of this size: a negative one counts from the end, and not past the front
abbrev pub index_from : ℕ → ℤ → ℕ
index_from size (pos n) = n
index_from size (negsuc n) = size - (n + 1)

-- how many a number asks for: a negative one none
abbrev pub how_many : ℤ → ℕ
how_many (pos n) = n
how_many (negsuc n) = 0

-- at most so many, where a number is given
abbrev pub at_most : {X : Type 0} → Option Datum → List X → List X
at_most None xs = xs
at_most (Some k) xs = take (how_many (to_number k)) xs

-- the last n
abbrev pub last_of : {X : Type 0} → ℕ → List X → List X
last_of n xs = drop (length xs - n) xs

-- at most k; a negative k leaves out that many at the end
abbrev pub up_to : ℤ → List Datum → List Datum
up_to (pos k) ts = take k ts
up_to (negsuc k) ts = take (length ts - (k + 1)) ts

-- the list from a place on, up to a number of elements where it is given
abbrev pub slice : ℤ → Option Datum → List Datum → List Datum
slice start None ts = drop (index_from (length ts) start) ts
slice start (Some k) ts = up_to (to_number k) (drop (index_from (length ts) start) ts)

-- the element at a place, null where there is none
abbrev pub nth : List Datum → ℤ → Datum
nth ts (pos n) = unwrap_or (slice_get ts n) null
nth ts (negsuc n) = null
