-- Rows: a value for each variable that a query has set so far (AQL's high-level operations hand rows of
-- variables from clause to clause). A variable is a name as it is written, or a number.
use Rattle.std.specs.Prelude.{List, [], ◌∷◌, Bool, false, cond, ◌==◌, bytes_eq, Option, Some, None, unwrap_or}
use Rattle.aql_value.specs.Datum.{Datum, null}
use Rattle.aql_tree.specs.declared.syntax.Ident.{Ident}
use Rattle.aql_tree.specs.declared.syntax.Ident.TheVariants.{Name, Num}

abbrev pub same_ident : Ident → Ident → Bool
same_ident (Name a) (Name b) = bytes_eq a b
same_ident (Num a) (Num b) = a == b
same_ident (Name a) (Num b) = false
same_ident (Num a) (Name b) = false

-- the value of each variable that the row has
abbrev pub Row : Type 0
Row = Ident → Option Datum

-- the row without variables
abbrev pub empty_row : Row
empty_row x = None

-- the row with v at x
abbrev pub bind : Ident → Row → Datum → Row
bind x row v y = cond (same_ident x y) (Some v) (row y)

-- the row with v at x, where there is such a variable
abbrev pub bind_maybe : Option Ident → Row → Datum → Row
bind_maybe None row v = row
bind_maybe (Some x) row v = bind x row v

-- the row with each value at its variable; null where there are more variables than values
abbrev pub bind_all : List Ident → List Datum → Row → Row
bind_all [] vs row = row
bind_all (x ∷ xs) [] row = bind_all xs [] (bind x row null)
bind_all (x ∷ xs) (v ∷ vs) row = bind_all xs vs (bind x row v)

-- the value of a variable; null for one that the row does not have
abbrev pub value_at : Row → Ident → Datum
value_at row x = unwrap_or (row x) null
