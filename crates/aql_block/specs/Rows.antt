-- A row as the program holds it: its variables with their values, of which the first entry of a variable
-- counts. As the clauses of a query see it, it is a row of aql_meaning, by `row_of`.
use Rattle.std.specs.Prelude.{ℕ, zero, suc, ◌≡◌, ◌≢◌, List, [], ◌∷◌, map, Bool, cond, None, IsSome}
use Rattle.std.specs.List.{list_any, AllByRecursion}
use Rattle.std.specs.Coded.{Coded, coded_ℕ, coded_list, coded×}
use Rattle.aql_value.specs.Datum.{Datum, coded_datum}
use Rattle.aql_tree.specs.declared.syntax.Ident.{Ident}
use Rattle.aql_tree.specs.declared.syntax.Ident.TheVariants.{Num}
use Rattle.aql_meaning.specs.Row.{Row, empty_row, bind, same_ident}

abbrev pub Entries : Type 0
Entries = List (ℕ × Datum)

-- how the logic stores them
abbrev pub coded_entries : Coded (List (ℕ × Datum))
coded_entries = coded_list (coded× coded_ℕ coded_datum)

-- the row that the entries stand for
abbrev pub row_of : Entries → Row
row_of [] = empty_row
row_of (e ∷ es) = bind (Num e.0) (row_of es) e.1

-- the row has a value for each of these variables
abbrev pub HasAll : List ℕ → Row → Type 0
HasAll vars row = AllByRecursion (λ x. IsSome (row (Num x))) vars

abbrev pub is_among : List ℕ → Ident → Bool
is_among vars y = list_any (λ x. same_ident (Num x) y) vars

-- the row with these variables alone
abbrev pub only : List ℕ → Row → Row
only vars row y = cond (is_among vars y) (row y) None

abbrev pub variables_of : Entries → List ℕ
variables_of es = map (λ e. e.0) es

-- the first place of a variable
abbrev pub IsFirst : List ℕ → ℕ → ℕ → Type 0
IsFirst [] x at = ⊥
IsFirst (y ∷ ys) x zero = y ≡ x
IsFirst (y ∷ ys) x (suc at) = (y ≢ x) × IsFirst ys x at
