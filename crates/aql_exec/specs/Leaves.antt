-- An executor without inputs: the rows that it holds, and no counts.
use Rattle.std.specs.Prelude.{◌≡◌, List, [], ◌∷◌, Option, Some, None, true, false, refl}
use mathlib.Core.Bool.{false≢true}
use Rattle.aql_meaning.specs.Row.{Row}
use Rattle.aql_block.specs.Rows.{Entries, row_of}
use Rattle.aql_exec.specs.Rests.{Counter, Rest}

abbrev pub held_row : Option Entries → List Row
held_row (Some row) = row_of row ∷ []
held_row None = []

abbrev pub gives_alone : List Row → Rest → Type 0
gives_alone rows r = (r.rows ≡ rows) × ((c : Counter) → r.counts c ≡ 0)

pub some_alone : (rows : List Row) → (r : Rest) × gives_alone rows r
some_alone rows = (record { rows = rows; counts = λ c. 0 }, (refl, λ c. refl))

-- no input of it is begun
pub more_alone : {P : Type 0} → false ≡ true → P
more_alone e = absurd (false≢true e)
