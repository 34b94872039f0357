-- A block as its callers see it: a table with registers, room for so many rows, and the rows that it holds.
-- Contracts speak of its rows, `rows_of`, which are rows of aql_meaning: each has a value for each register
-- and for no other variable.
use Rattle.std.specs.Prelude.{ℕ, List, [], ◌∷◌, map, Bool, true, false, slice_get, unwrap_or, refl}
use Rattle.std.specs.Coded.{Coded, code_by, coded_ℕ, coded_list, coded×}
use Rattle.aql_value.specs.Datum.{Datum, null, coded_datums}
use Rattle.aql_meaning.specs.Row.{Row}
use Rattle.aql_block.specs.Rows.{Entries, row_of}

-- `values` has for each row its values, in the order of the registers
pub record Table : Type 0 where
  pub registers : List ℕ
  pub room : ℕ
  pub values : List (List Datum)

-- how the logic stores a table
abbrev pub coded_table : Coded Table
coded_table = code_by (List ℕ × (ℕ × List (List Datum)))
    (coded× (coded_list coded_ℕ) (coded× coded_ℕ (coded_list coded_datums)))
    (λ t. (t.registers, (t.room, t.values)))
    (λ p. record { registers = p.0; room = p.1.0; values = p.1.1 }) (λ _. refl)

-- each register with its value; null where there are fewer values
abbrev pub cells : List ℕ → List Datum → Entries
cells [] vs = []
cells (x ∷ xs) [] = (x, null) ∷ cells xs []
cells (x ∷ xs) (v ∷ vs) = (x, v) ∷ cells xs vs

-- the rows of a block, in order
abbrev pub rows_of : Table → List Row
rows_of t = map (λ vs. row_of (cells t.registers vs)) t.values

-- the entries of the row at a place
abbrev pub cells_at : Table → ℕ → Entries
cells_at t at = cells t.registers (unwrap_or (slice_get t.values at) [])

-- the items whose mark is true, in order
abbrev pub marked : {X : Type 0} → List X → List Bool → List X
marked [] marks = []
marked (x ∷ xs) [] = []
marked (x ∷ xs) (true ∷ marks) = x ∷ marked xs marks
marked (x ∷ xs) (false ∷ marks) = marked xs marks
