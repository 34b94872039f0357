-- SORT: what it may still give, of the rows that it holds and of those that come.
use Rattle.std.specs.Prelude.{◌≡◌, ℕ, ◌*◌, ◌≤◌, ◌++◌, List, [], length, map, reverse, Bool, true, false, Option, MatchOption, IsPermutation, IsSortedBy, refl}
use Rattle.std.specs.List.{All}
use Rattle.aql_meaning.specs.Row.{Row}
use Rattle.aql_meaning.specs.Clauses.{KeyedRow, comes_before}
use Rattle.aql_meaning.specs.laws.SomeOrder.{some_order}
use Rattle.aql_plan.specs.View.{directions, key_trees}
use Rattle.aql_block.specs.Rows.{HasAll, only}
use Rattle.aql_block.specs.Tables.{rows_of}
use Rattle.aql_exec.specs.Rests.{Counter, Rest}
use Rattle.aql_exec.specs.Counting.{nothing}
use Rattle.aql_exec_rows.specs.Keys.{with_keys, keyed_in, rows_alone, first_of}
use Rattle.aql_exec_rows.specs.declared.sort.Order.{Order}

-- the first of these rows in some order of their keys
abbrev pub FirstInOrder : List Bool → Option ℕ → List KeyedRow → List Row → Type 0
FirstInOrder directions limit rows out = (sorted : List KeyedRow) × IsPermutation rows sorted
    × IsSortedBy (comes_before directions) sorted × (out ≡ rows_alone (first_of limit sorted))

-- of the rows that are said to come those that do: none where all were put in
abbrev pub coming : Bool → List Row → List Row
coming true rows = []
coming false rows = rows

-- all rows, with their keys: those that are held, those that were put in last and those that come
abbrev pub all_keyed : Order → List Row → List KeyedRow
all_keyed s rows = keyed_in s.rows.items
    ++ map (with_keys (key_trees s.keys)) (rows_of s.block ++ coming s.closed rows)

-- once the rows are sorted, they are given from the last on
abbrev pub LeavesRows : Bool → Order → List Row → List Row → Type 0
LeavesRows true s rows out = out ≡ rows_alone (reverse (keyed_in s.rows.items))
LeavesRows false s rows out = FirstInOrder (directions s.keys) s.limit (all_keyed s rows) out

abbrev pub Leaves : Bool → Order → List Row → Rest → Type 0
Leaves sorted s rows r = LeavesRows sorted s rows r.rows × ((c : Counter) → r.counts c ≡ 0)

abbrev pub left_order : Order → List Row → Rest → Type 0
left_order s rows r = Leaves s.sorted s rows r

-- a row with a value for each of these variables and for no other
abbrev pub HasExactly : List ℕ → Row → Type 0
HasExactly xs row = HasAll xs row × (only xs row ≡ row)

abbrev pub AllHave : List ℕ → List KeyedRow → Type 0
AllHave xs ks = All (λ (k : KeyedRow). HasExactly xs k.1) ks

-- with a limit, at most twice as many rows are held
abbrev pub AreFew : Option ℕ → ℕ → Type 0
AreFew limit n = MatchOption limit (Unit {0}) (λ count. n ≤ 2 * count)

pub record OrderIs (s : Order) : Type 0 where
  pub alike : s.uniform ≡ true → AllHave s.registers.items (keyed_in s.rows.items)
  pub sorted : s.sorted ≡ true → (s.closed ≡ true) × (rows_of s.block ≡ [])
  pub few : AreFew s.limit (length s.rows.items)

pub some_left : (s : Order) (rows : List Row) → (r : Rest) × left_order s rows r
some_left s rows = by s.sorted
  where
    by : (b : Bool) → (r : Rest) × Leaves b s rows r
    by true = (
      record { rows = rows_alone (reverse (keyed_in s.rows.items)); counts = nothing },
      (refl, λ c. refl),
    )
    by false =
        let o = some_order (directions s.keys) (λ (k : KeyedRow). k.0) (all_keyed s rows) in (
          record { rows = rows_alone (first_of s.limit o.0); counts = nothing },
          ((o.0, o.1, o.2, refl), λ c. refl),
        )
