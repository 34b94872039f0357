-- The size of an expression is that of its form and that of its parts.
use Rattle.std.proofs.Common.{ℕ, ◌+◌, ◌<◌, ◌≤◌, ◌≡◌, ◌∙◌, List, [], ◌∷◌, ◌++◌, refl, ap, arith}
use Rattle.aql_tree.specs.Tree.{ExprTree, literal, variable, current, array_literal, object_literal, access}
use Rattle.aql_tree.specs.Tree.{function_call, unary_of, chain, array_comparison, ternary, range_of, subquery}
use Rattle.aql_tree.specs.Tree.{ExprTrees, no_exprs, expr_then, MaybeExpr, no_expr, one_expr}
use Rattle.aql_tree.specs.Tree.{MemberTrees, no_members, named_then, computed_then}
use Rattle.aql_tree.specs.Tree.{StepTrees, no_steps, name_then, at_then, inline_then}
use Rattle.aql_tree.specs.Tree.{LinkTrees, no_links, link_then}
use Rattle.aql_rewrite.specs.Children.{list_children, maybe_children, member_children, step_children, link_children, children}
use Rattle.aql_rewrite.specs.OverChildren.{over_children}
use Rattle.aql_rewrite.specs.Size.{size, list_size, maybe_size, members_size, steps_size, links_size}
use Rattle.aql_rewrite.specs.Size.{size_all}
use Rattle.aql_rewrite.specs.ExprView.{each_over}
use Rattle.aql_rewrite.specs.laws.Own.{own_size, own_kept}
use Rattle.aql_rewrite.specs.laws.PartsBack.{parts_back}

pub append_size : (xs ys : List ExprTree) → size_all (xs ++ ys) ≡ size_all xs + size_all ys
append_size [] ys = omega arith
append_size (x ∷ xs) ys = omega (arith, append_size xs ys)

list_sized : (es : ExprTrees) → size_all (list_children es) ≡ list_size es
list_sized no_exprs = refl
list_sized (expr_then e es) = omega (arith, list_sized es)

maybe_sized : (e : MaybeExpr) → size_all (maybe_children e) ≡ maybe_size e
maybe_sized no_expr = refl
maybe_sized (one_expr e) = omega arith

members_sized : (ms : MemberTrees) → size_all (member_children ms) ≡ members_size ms
members_sized no_members = refl
members_sized (named_then name e ms) = omega (arith, members_sized ms)
members_sized (computed_then n e ms) = omega (arith, members_sized ms)

steps_sized : (ss : StepTrees) → size_all (step_children ss) ≡ steps_size ss
steps_sized no_steps = refl
steps_sized (name_then name ss) = steps_sized ss
steps_sized (at_then e ss) = omega (arith, steps_sized ss)
steps_sized (inline_then filter gives ss) =
    omega (
      arith,
      append_size (maybe_children filter) (maybe_children gives ++ step_children ss),
      append_size (maybe_children gives) (step_children ss),
      maybe_sized filter,
      maybe_sized gives,
      steps_sized ss,
    )

links_sized : (ls : LinkTrees) → size_all (link_children ls) ≡ links_size ls
links_sized no_links = refl
links_sized (link_then op e ls) = omega (arith, links_sized ls)

pub size_split : (e : ExprTree) → size e ≡ size_all (children e) + own_size e
size_split (literal v) = omega arith
size_split (variable x) = omega arith
size_split current = omega arith
size_split (array_literal es) = omega (arith, list_sized es)
size_split (object_literal ms) = omega (arith, members_sized ms)
size_split (access e ss) = omega (arith, steps_sized ss)
size_split (function_call name es) = omega (arith, list_sized es)
size_split (unary_of op e) = omega arith
size_split (chain e ls) = omega (arith, links_sized ls)
size_split (array_comparison a kind op b) = omega arith
size_split (ternary test middle other) =
    omega (arith, append_size (maybe_children middle) (other ∷ []), maybe_sized middle)
size_split (range_of a b) = omega arith
size_split (subquery q) = omega arith

pub at_least_one : (e : ExprTree) → 1 ≤ own_size e
at_least_one (literal v) = omega arith
at_least_one (variable x) = omega arith
at_least_one current = omega arith
at_least_one (array_literal es) = omega arith
at_least_one (object_literal ms) = omega arith
at_least_one (access e ss) = omega arith
at_least_one (function_call name es) = omega arith
at_least_one (unary_of op e) = omega arith
at_least_one (chain e ls) = omega arith
at_least_one (array_comparison a kind op b) = omega arith
at_least_one (ternary test middle other) = omega arith
at_least_one (range_of a b) = omega arith
at_least_one (subquery q) = omega arith

pub parts_smaller : (e : ExprTree) → size_all (children e) < size e
parts_smaller e = omega (arith, size_split e, at_least_one e)

-- over smaller parts an expression is smaller
pub smaller_over : (e : ExprTree) (ps : List ExprTree) → each_over (children e) ps ≡ ps
    → size_all ps < size_all (children e) → size (over_children e ps) < size e
smaller_over e ps h k =
    let same : size_all (children (over_children e ps)) ≡ size_all ps = ap size_all (parts_back e ps ∙ h) in
    omega (arith, size_split e, size_split (over_children e ps), (own_kept e ps).same_size, same)
