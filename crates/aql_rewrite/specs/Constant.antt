-- Constant expressions: without variables, CURRENT and subqueries, in their parts too.
use Rattle.std.specs.Prelude.{◌≡◌, List, [], ◌∷◌, Bool, true, false}
use Rattle.aql_value.specs.Datum.{Datum}
use Rattle.aql_tree.specs.Tree.{ExprTree, variable, current, subquery}
use Rattle.aql_meaning.specs.Row.{Row}
use Rattle.aql_meaning.specs.Value.{value}
use Rattle.aql_rewrite.specs.Children.{children}

-- a variable, CURRENT or a subquery
abbrev pub is_open : ExprTree → Bool
is_open (variable x) = true
is_open current = true
is_open (subquery q) = true
is_open e = false

mutual
  pub data IsConstant : ExprTree → Type 0 where
    constant : {e : ExprTree} → is_open e ≡ false → AreConstant (children e) → IsConstant e

  pub data AreConstant : List ExprTree → Type 0 where
    no_more : AreConstant []
    constant_then : {e : ExprTree} {es : List ExprTree} → IsConstant e → AreConstant es → AreConstant (e ∷ es)

-- the value is the same at all rows, whatever CURRENT is
abbrev pub HasOneValue : ExprTree → Type 0
HasOneValue e = (cur other : Datum) (row start : Row) → value e cur row ≡ value e other start
