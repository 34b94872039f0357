-- The columns of a block: for each register the values of all rows, in the order of the rows.
use Rattle.std.specs.Prelude.{ℕ, zero, suc, ◌≡◌, ◌≤◌, ◌<◌, ◌++◌, List, [], ◌∷◌, map, length, take, drop, slice_get, slice_set, unwrap_or, Bool, cond, ◌==◌, refl}
use Rattle.std.specs.List.{AllByRecursion}
use Rattle.std.specs.Coded.{Coded, code_by, coded_ℕ, coded×}
use Rattle.aql_value.specs.Datum.{Datum, null, coded_datums}
use Rattle.aql_tree.specs.declared.syntax.Ident.TheVariants.{Num}
use Rattle.aql_meaning.specs.Row.{Row, bind, value_at}
use Rattle.aql_block.specs.Rows.{Entries}
use Rattle.aql_block.specs.Tables.{marked}

-- one column: its values, and how many have room without more memory
pub record ColumnView : Type 0 where
  pub room : ℕ
  pub held : List Datum

abbrev pub coded_column : Coded ColumnView
coded_column = code_by (ℕ × List Datum) (coded× coded_ℕ coded_datums) (λ c. (c.room, c.held))
    (λ p. record { room = p.0; held = p.1 }) (λ _. refl)

-- so many rows without values
abbrev pub blanks : ℕ → List (List Datum)
blanks zero = []
blanks (suc n) = [] ∷ blanks n

-- each value in front of its row
abbrev pub beside : List Datum → List (List Datum) → List (List Datum)
beside [] rows = []
beside (v ∷ vs) [] = []
beside (v ∷ vs) (row ∷ rows) = (v ∷ row) ∷ beside vs rows

-- the rows of so many columns: the values that stand at one place
abbrev pub rows_in : ℕ → List ColumnView → List (List Datum)
rows_in n [] = blanks n
rows_in n (c ∷ cs) = beside c.held (rows_in n cs)

-- a column has so many values, and at least so much room
abbrev pub Fits : ℕ → ℕ → ColumnView → Type 0
Fits n room c = (length c.held ≡ n) × (room ≤ c.room)

-- the columns of a block of so many rows
pub record IsFilled (registers : List ℕ) (columns : List ColumnView) (n room : ℕ) : Type 0 where
  pub count : length columns ≡ length registers
  pub fit : AllByRecursion (Fits n room) columns
  pub within : n ≤ room

-- ---- what becomes of columns

abbrev pub HasRoom : ColumnView → Type 0
HasRoom c = length c.held < c.room

-- a column of one value for each entry
abbrev pub single_columns : Entries → List ColumnView
single_columns es = map (λ e. record { room = 1; held = e.1 ∷ [] }) es

-- each column with its value at the end
abbrev pub pushed : List ColumnView → List Datum → List ColumnView
pushed [] vs = []
pushed (c ∷ cs) [] = c ∷ cs
pushed (c ∷ cs) (v ∷ vs) = record { room = c.room; held = c.held ++ v ∷ [] } ∷ pushed cs vs

-- the values of these variables, each taken out of the row, which then has null there
abbrev pub moved_values : List ℕ → Row → List Datum
moved_values [] row = []
moved_values (x ∷ xs) row = value_at row (Num x) ∷ moved_values xs (bind (Num x) row null)

-- the values of these variables in the row with v at x; null where x comes again
abbrev pub copied_values : List ℕ → ℕ → Row → Datum → List Datum
copied_values [] x row v = []
copied_values (y ∷ ys) x row v =
    value_at (bind (Num x) row v) (Num y) ∷ copied_values ys x row (cond (x == y) null v)

-- the values at one place
abbrev pub values_at : List ColumnView → ℕ → List Datum
values_at cs at = map (λ c. unwrap_or (slice_get c.held at) null) cs

-- the column with null at a place
abbrev pub without : ℕ → ColumnView → ColumnView
without at c = record { room = c.room; held = slice_set c.held at null }

-- the column with its first values
abbrev pub first_of : ℕ → ColumnView → ColumnView
first_of n c = record { room = c.room; held = take n c.held }

-- the column with the values after them alone
abbrev pub rest_of : ℕ → ColumnView → ColumnView
rest_of n c = record { room = length (drop n c.held); held = drop n c.held }

-- the column with the values whose mark is true
abbrev pub marked_of : List Bool → ColumnView → ColumnView
marked_of marks c = record { room = c.room; held = marked c.held marks }
