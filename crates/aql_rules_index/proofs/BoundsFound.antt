-- The bounds that the program makes of items, one attribute after another.
use Rattle.std.proofs.Common.{◌≡◌, ◌∙◌, ◌<◌, ◌≤◌, ◌+◌, ℕ, List, [], ◌∷◌, ◌++◌, length, map, drop, get_or, true, Option, Some, None, refl, sym, ap}
use Rattle.std.proofs.lemmas.List.{map-append, at_drop_more, at_drop_all}
use Rattle.aql_tree.specs.declared.syntax.Expr.{Expr}
use Rattle.aql_tree.specs.Tree.{ExprTree, no_exprs, expr_then}
use Rattle.aql_tree.specs.View.{tree, trees}
use Rattle.aql_meaning.specs.Documents.{Last, no_last}
use Rattle.aql_plan.specs.View.{expr_trees}
use Rattle.aql_rules_index.specs.Choice.{Item, is_eq_op, first_on, last_on, Bounds, bounds_then, sorted_bounds, has_bound}

-- an equality is a bound
pub some_equal : (es : List Expr) (last : Last ExprTree) → (length es ≡ 0 → ⊥)
    → has_bound (expr_trees es) last ≡ true
some_equal [] last h = absurd (h refl)
some_equal (e ∷ es) last h = refl

-- ---- equalities so far

-- bounds with more equalities in front
abbrev with_equal : ExprTree → Bounds → Bounds
with_equal e b = record { equal = expr_then e b.equal; last = b.last }

abbrev pub with_front : List ExprTree → Bounds → Bounds
with_front [] b = b
with_front (e ∷ es) b = with_equal e (with_front es b)

front_more : (es : List ExprTree) (e : ExprTree) (b : Bounds)
    → with_front (es ++ e ∷ []) b ≡ with_front es (with_equal e b)
front_more [] e b = refl
front_more (f ∷ es) e b = ap (λ (c : Bounds). with_equal f c) (front_more es e b)

abbrev with_last : Last ExprTree → Bounds
with_last last = record { equal = no_exprs; last = last }

front_end : (es : List ExprTree) (last : Last ExprTree)
    → with_front es (with_last last) ≡ record { equal = trees es; last = last }
front_end [] last = refl
front_end (e ∷ es) last = ap (λ (b : Bounds). with_equal e b) (front_end es last)

-- one more equality
equal_more : (es new : List Expr) (x : Expr) (e : ExprTree) (b : Bounds) → new ≡ es ++ x ∷ [] → tree x ≡ e
    → with_front (map tree es) (with_equal e b) ≡ with_front (map tree new) b
equal_more es new x e b h f =
    sym (ap (λ (xs : List Expr). with_front (map tree xs) b) h
    ∙ ap (λ (ts : List ExprTree). with_front ts b) (map-append tree es (x ∷ []))
    ∙ front_more (map tree es) (tree x) b
    ∙ ap (λ (t : ExprTree). with_front (map tree es) (with_equal t b)) f)

module _ (names : List (List ℕ)) (is : List Item) (equal : List Expr) (i : ℕ)
    (so_far : sorted_bounds names is ≡ with_front (map tree equal) (sorted_bounds (drop i names) is)) where
  -- all attributes have an equality
  pub all_equal : length names ≤ i → record { equal = expr_trees equal; last = no_last } ≡ sorted_bounds names is
  all_equal h = sym (so_far
      ∙ ap (with_front (map tree equal)) (at_drop_all (λ (ns : List (List ℕ)). sorted_bounds ns is) names i h)
      ∙ front_end (map tree equal) no_last)

  module _ (name : List ℕ) (within : i < length names) (here : name ≡ get_or names i name) where
    abbrev rest : Bounds
    rest = sorted_bounds (drop (i + 1) names) is

    at_name : sorted_bounds (drop i names) is ≡ bounds_then (first_on is_eq_op name is) (last_on name is) rest
    at_name = at_drop_more (λ (ns : List (List ℕ)). sorted_bounds ns is) names i name within
        ∙ ap (λ (n : List ℕ). sorted_bounds (n ∷ drop (i + 1) names) is) (sym here)

    pub next_equal : (item : Item) (x : Expr) (new : List Expr) → first_on is_eq_op name is ≡ Some item
        → tree x ≡ item.other → new ≡ equal ++ x ∷ []
        → sorted_bounds names is ≡ with_front (map tree new) rest
    next_equal item x new f e h = so_far
        ∙ ap (with_front (map tree equal))
        (at_name ∙ ap (λ (o : Option Item). bounds_then o (last_on name is) rest) f)
        ∙ equal_more equal new x item.other rest h e

    pub last_found : (last : Last ExprTree) → first_on is_eq_op name is ≡ None → last ≡ last_on name is
        → record { equal = expr_trees equal; last = last } ≡ sorted_bounds names is
    last_found last f e = sym (so_far
        ∙ ap (with_front (map tree equal))
        (at_name ∙ ap (λ (o : Option Item). bounds_then o (last_on name is) rest) f ∙ ap with_last (sym e))
        ∙ front_end (map tree equal) last)
