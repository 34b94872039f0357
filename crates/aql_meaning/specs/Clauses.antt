-- What each clause makes of a list of rows, where the values of its expressions at the rows are given, in
-- the same order (AQL's high-level operations: FOR, FILTER, LET, SORT, LIMIT, RETURN). The definitions know
-- no tree, so that whatever else works on rows can be said in the same words.
use Rattle.std.specs.Prelude.{ℕ, ◌≡◌, List, [], ◌∷◌, map, flat_map, zip, take, drop, Bool, true, false, cond, Option, Some, None, IsPermutation, IsSortedBy}
use Rattle.std.specs.Ordering.{is_lt, ordering_then}
use Rattle.std.specs.declared.cmp.Ordering.{Ordering}
use Rattle.std.specs.declared.cmp.Ordering.TheVariants.{Equal}
use Rattle.aql_value.specs.Datum.{Datum}
use Rattle.aql_value.specs.Contents.{elements}
use Rattle.aql_value.specs.Compare.{compare}
use Rattle.aql_value.specs.Truth.{truth}
use Rattle.aql_func.specs.Arguments.{argument}
use Rattle.aql_func.specs.Lists.{firsts}
use Rattle.aql_tree.specs.declared.syntax.Ident.{Ident}
use Rattle.aql_meaning.specs.Row.{Row, bind}

-- each row with each of its own things, row after row; `f` gives the row with one of them
abbrev pub with_each : {X : Type 0} → (Row → X → Row) → List Row → List (List X) → List Row
with_each {X = X} f rows lists = flat_map (λ (own : Row × List X). map (f own.0) own.1) (zip rows lists)

-- FOR over an array: each row with each element of its value, in order; nothing where it is no array
abbrev pub with_elements : Ident → List Row → List Datum → List Row
with_elements x rows values = with_each (bind x) rows (map elements values)

-- FOR over a collection: any permutation of each row with each document
abbrev pub with_documents : Ident → List Datum → List Row → List Row
with_documents x documents rows = with_each (bind x) rows (map (λ row. documents) rows)

-- FILTER: those whose value is true-like, in order
abbrev pub filter_true : {X : Type 0} → List X → List Datum → List X
filter_true [] values = []
filter_true (x ∷ xs) [] = []
filter_true (x ∷ xs) (v ∷ values) = cond (truth v) (x ∷ filter_true xs values) (filter_true xs values)

-- LET: each row with its value
abbrev pub with_values : Ident → List Row → List Datum → List Row
with_values x [] values = []
with_values x (row ∷ rows) [] = []
with_values x (row ∷ rows) (v ∷ values) = bind x row v ∷ with_values x rows values

-- LIMIT: at most `count` rows, after the first `offset`
abbrev pub limit_rows : ℕ → ℕ → List Row → List Row
limit_rows offset count rows = take count (drop offset rows)

-- RETURN: the values of all rows; with DISTINCT each value at its first place alone
abbrev pub return_values : Bool → List Datum → List Datum
return_values distinct values = cond distinct (firsts values) values

-- two values of one key; `true` stands for DESC
abbrev pub key_cmp : Bool → Datum → Datum → Ordering
key_cmp false k l = compare k l
key_cmp true k l = compare l k

-- two lists of values compare key by key: the first key that differs decides
abbrev pub keys_cmp : List Bool → List Datum → List Datum → Ordering
keys_cmp [] keys others = Equal
keys_cmp (descending ∷ directions) keys others =
    ordering_then (key_cmp descending (argument keys 0) (argument others 0))
    (keys_cmp directions (drop 1 keys) (drop 1 others))

-- a row with the values of its keys
abbrev pub KeyedRow : Type 0
KeyedRow = List Datum × Row

abbrev pub comes_before : List Bool → KeyedRow → KeyedRow → Bool
comes_before directions a b = is_lt (keys_cmp directions a.0 b.0)

-- SORT: any permutation of the rows in which no row has lesser keys than the row before it
abbrev pub Sorts : List Bool → List (List Datum) → List Row → List Row → Type 0
Sorts directions keys rows out = (sorted : List KeyedRow) × IsPermutation (zip keys rows) sorted
    × IsSortedBy (comes_before directions) sorted × (out ≡ map (λ (keyed : KeyedRow). keyed.1) sorted)

-- SORT of which only the first rows are asked for
abbrev pub first_rows : Option ℕ → List Row → List Row
first_rows None rows = rows
first_rows (Some count) rows = take count rows
