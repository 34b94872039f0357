-- What an expression that stands in another one's place keeps of it.
use Rattle.std.specs.Prelude.{◌≡◌, List, map, Bool, true, false, ◌||◌}
use Rattle.std.specs.List.{list_any}
use Rattle.aql_value.specs.Datum.{Datum}
use Rattle.aql_tree.specs.declared.syntax.Ident.{Ident}
use Rattle.aql_tree.specs.Tree.{ExprTree, literal, variable, current, array_literal, object_literal, access}
use Rattle.aql_tree.specs.Tree.{function_call, unary_of, chain, array_comparison, ternary, range_of, subquery}
use Rattle.aql_tree.specs.Tree.{ExprTrees, no_exprs, expr_then, MaybeExpr, no_expr, one_expr}
use Rattle.aql_tree.specs.Tree.{MemberTrees, no_members, named_then, computed_then}
use Rattle.aql_tree.specs.Tree.{StepTrees, no_steps, name_then, at_then, inline_then}
use Rattle.aql_tree.specs.Tree.{LinkTrees, no_links, link_then}
use Rattle.aql_meaning.specs.Row.{Row, same_ident}
use Rattle.aql_meaning.specs.Value.{value}
use Rattle.aql_meaning.specs.Plain.{IsPlain}
use Rattle.aql_meaning.specs.Uses.{uses, used_variable}

-- q has the value of p at every row, whatever CURRENT is
abbrev pub SameValue : ExprTree → ExprTree → Type 0
SameValue p q = (cur : Datum) (row : Row) → value q cur row ≡ value p cur row

-- the variables that an expression uses
abbrev pub variables : ExprTree → List Ident
variables e = map used_variable (uses e)

abbrev pub uses_variable : Ident → ExprTree → Bool
uses_variable x e = list_any (same_ident x) (variables e)

abbrev mutual
  -- whether CURRENT stands in an expression; in an inline expression it is an element of the array there, and
  -- doesn't count
  pub uses_current : ExprTree → Bool
  uses_current (literal v) = false
  uses_current (variable x) = false
  uses_current current = true
  uses_current (array_literal es) = list_current es
  uses_current (object_literal ms) = members_current ms
  uses_current (access e ss) = uses_current e || steps_current ss
  uses_current (function_call name es) = list_current es
  uses_current (unary_of op e) = uses_current e
  uses_current (chain e ls) = uses_current e || links_current ls
  uses_current (array_comparison a kind op b) = uses_current a || uses_current b
  uses_current (ternary test first other) = uses_current test || (maybe_current first || uses_current other)
  uses_current (range_of a b) = uses_current a || uses_current b
  uses_current (subquery q) = false

  pub list_current : ExprTrees → Bool
  list_current no_exprs = false
  list_current (expr_then e es) = uses_current e || list_current es

  pub maybe_current : MaybeExpr → Bool
  maybe_current no_expr = false
  maybe_current (one_expr e) = uses_current e

  pub members_current : MemberTrees → Bool
  members_current no_members = false
  members_current (named_then name e ms) = uses_current e || members_current ms
  members_current (computed_then n e ms) = uses_current n || (uses_current e || members_current ms)

  pub steps_current : StepTrees → Bool
  steps_current no_steps = false
  steps_current (name_then name ss) = steps_current ss
  steps_current (at_then e ss) = uses_current e || steps_current ss
  steps_current (inline_then filter gives ss) = steps_current ss

  pub links_current : LinkTrees → Bool
  links_current no_links = false
  links_current (link_then op e ls) = uses_current e || links_current ls

-- q may stand in place of p
pub record Keeps (p q : ExprTree) : Type 0 where
  -- no subquery comes in
  pub plain : IsPlain p → IsPlain q
  -- the value is the same; of subqueries this says nothing
  pub same_value : IsPlain p → SameValue p q
  -- no variable comes in
  pub no_variable : (x : Ident) → uses_variable x q ≡ true → uses_variable x p ≡ true
  -- CURRENT doesn't come in
  pub no_current : uses_current q ≡ true → uses_current p ≡ true
