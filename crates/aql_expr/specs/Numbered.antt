-- Rows whose variables are numbers, as a query has them once its names are scoped.
use Rattle.std.specs.Prelude.{ℕ, Option, None}
use Rattle.aql_value.specs.Datum.{Datum}
use Rattle.aql_tree.specs.declared.syntax.Ident.TheVariants.{Name, Num}
use Rattle.aql_meaning.specs.Row.{Row}

-- the row with these values by number, and without a variable that goes by a name
abbrev pub numbered_row : (ℕ → Option Datum) → Row
numbered_row values (Name x) = None
numbered_row values (Num n) = values n
