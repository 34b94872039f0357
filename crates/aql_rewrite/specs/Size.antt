-- The size of an expression, which falls where a rule is applied, so that a pass ends: a literal counts one,
-- every other form two.
use Rattle.std.specs.Prelude.{ℕ, ◌+◌, List, [], ◌∷◌}
use Rattle.aql_tree.specs.Tree.{ExprTree, literal, variable, current, array_literal, object_literal, access}
use Rattle.aql_tree.specs.Tree.{function_call, unary_of, chain, array_comparison, ternary, range_of, subquery}
use Rattle.aql_tree.specs.Tree.{ExprTrees, no_exprs, expr_then, MaybeExpr, no_expr, one_expr}
use Rattle.aql_tree.specs.Tree.{MemberTrees, no_members, named_then, computed_then}
use Rattle.aql_tree.specs.Tree.{StepTrees, no_steps, name_then, at_then, inline_then}
use Rattle.aql_tree.specs.Tree.{LinkTrees, no_links, link_then}

abbrev mutual
  pub size : ExprTree → ℕ
  size (literal v) = 1
  size (variable x) = 2
  size current = 2
  size (array_literal es) = list_size es + 2
  size (object_literal ms) = members_size ms + 2
  size (access e ss) = size e + (steps_size ss + 2)
  size (function_call name es) = list_size es + 2
  size (unary_of op e) = size e + 2
  size (chain e ls) = size e + (links_size ls + 2)
  size (array_comparison a kind op b) = size a + (size b + 2)
  size (ternary test first other) = size test + (maybe_size first + (size other + 2))
  size (range_of a b) = size a + (size b + 2)
  size (subquery q) = 2

  pub list_size : ExprTrees → ℕ
  list_size no_exprs = 0
  list_size (expr_then e es) = size e + list_size es

  pub maybe_size : MaybeExpr → ℕ
  maybe_size no_expr = 0
  maybe_size (one_expr e) = size e

  pub members_size : MemberTrees → ℕ
  members_size no_members = 0
  members_size (named_then name e ms) = size e + members_size ms
  members_size (computed_then n e ms) = size n + (size e + members_size ms)

  pub steps_size : StepTrees → ℕ
  steps_size no_steps = 0
  steps_size (name_then name ss) = steps_size ss
  steps_size (at_then e ss) = size e + steps_size ss
  steps_size (inline_then filter gives ss) = maybe_size filter + (maybe_size gives + steps_size ss)

  pub links_size : LinkTrees → ℕ
  links_size no_links = 0
  links_size (link_then op e ls) = size e + links_size ls

-- the size of several expressions
abbrev pub size_all : List ExprTree → ℕ
size_all [] = 0
size_all (e ∷ es) = size e + size_all es
