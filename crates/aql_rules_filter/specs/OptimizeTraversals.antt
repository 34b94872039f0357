-- The rule optimize-traversals: the variable of the edges or of the paths of a Traversal goes where it is not
-- used, neither above nor in the PRUNE and the filter of the Traversal; the edges come first; a Filter over a
-- Traversal without a filter goes into it where the condition does not use the path.
use Rattle.std.specs.Prelude.{ℕ, ◌≡◌, ◌++◌, List, Bool, true, false, not, ◌&&◌, Option, Some, None, option_to_list}
use Rattle.aql_tree.specs.declared.syntax.Ident.{Ident}
use Rattle.aql_tree.specs.Tree.{ExprTree, MaybeExpr, no_expr, one_expr, TraversalShape}
use Rattle.aql_meaning.specs.Uses.{Uses, uses, maybe_uses, is_used}
use Rattle.aql_plan.specs.Plan.{Plan, Over, Traversal, Filter}
use Rattle.aql_rewrite.specs.declared.swap.Rename.{Rename}
use Rattle.aql_rules_filter.specs.MoveFiltersUp.{none_used}

-- the shape with these variables for the edges and the paths
abbrev pub with_vars : TraversalShape → Option Ident → Option Ident → TraversalShape
with_vars w edge path = record {
  vertex = w.vertex;
  edge = edge;
  path = path;
  min = w.min;
  max = w.max;
  direction = w.direction;
  options = w.options;
}

-- what PRUNE and the filter use
abbrev pub tests_use : MaybeExpr → MaybeExpr → Uses
tests_use prune keep = maybe_uses prune ++ maybe_uses keep

-- there is a variable, and neither of two lists uses it
abbrev pub is_gone : Option Ident → Uses → Uses → Bool
is_gone None us vs = false
is_gone (Some x) us vs = not (is_used x us) && not (is_used x vs)

pub data Optimizes : Uses → Plan → Plan → Option Rename → Type 0 where
  edge_goes : {us : Uses} {b : Plan} (w : TraversalShape) {x : Ident} {path : Option Ident} {e : ExprTree}
      {colls : List ℕ} {prune keep : MaybeExpr}
      → is_used x us ≡ false → is_used x (tests_use prune keep) ≡ false
      → Optimizes us (Over b (Traversal (with_vars w (Some x) path) e colls prune keep))
      (Over b (Traversal (with_vars w None path) e colls prune keep)) None
  path_goes : {us : Uses} {b : Plan} (w : TraversalShape) {x : Ident} {edge : Option Ident} {e : ExprTree}
      {colls : List ℕ} {prune keep : MaybeExpr} → is_gone edge us (tests_use prune keep) ≡ false
      → is_used x us ≡ false → is_used x (tests_use prune keep) ≡ false
      → Optimizes us (Over b (Traversal (with_vars w edge (Some x)) e colls prune keep))
      (Over b (Traversal (with_vars w edge None) e colls prune keep)) None
  filter_goes_in : {us : Uses} {b : Plan} {w : TraversalShape} {e : ExprTree} {colls : List ℕ}
      {prune : MaybeExpr} {c : ExprTree} → none_used (option_to_list w.path) (uses c) ≡ true
      → Optimizes us (Over (Over b (Traversal w e colls prune no_expr)) (Filter c))
      (Over b (Traversal w e colls prune (one_expr c))) None
