-- The member that is taken of an object literal, as the program finds it: for the contracts of private
-- functions alone.
use Rattle.std.specs.Prelude.{ℕ, List, cond, Option, Some, None, bytes_eq}
use Rattle.std.specs.Borrow.{Bor}
use Rattle.aql_value.specs.Datum.{null}
use Rattle.aql_tree.specs.declared.syntax.Expr.{Expr}
use Rattle.aql_tree.specs.Tree.{ExprTree, literal, object_literal, access, StepTrees, name_then, MemberTrees}
use Rattle.aql_tree.specs.View.{tree, MemberPart, named, computed}
use Rattle.aql_rules_calc.specs.SimplifyConditions.{all_named, last_of, with_steps}

abbrev pub access_in : ExprTree → Option (ExprTree × StepTrees)
access_in (access e ss) = Some (e, ss)
access_in e = None

abbrev pub members_in : ExprTree → Option MemberTrees
members_in (object_literal ms) = Some ms
members_in e = None

abbrev pub name_in : StepTrees → Option (List ℕ × StepTrees)
name_in (name_then name ss) = Some (name, ss)
name_in ss = None

-- the value of a member of this name, else what was found before
abbrev pub named_in : List ℕ → MemberPart → ExprTree → ExprTree
named_in name (named n e) before = cond (bytes_eq name n) e before
named_in name (computed n e) before = before

abbrev pub or_null : Option (Bor Expr) → ExprTree
or_null None = literal null
or_null (Some e) = tree e.now

abbrev pub member_taken : ExprTree → Option ExprTree
member_taken (access (object_literal ms) (name_then name ss)) =
    cond (all_named ms) (Some (with_steps (last_of name ms (literal null)) ss)) None
member_taken e = None
