-- Each application of a rule to a part lowers a number, and does not hang on what is used above.
use Rattle.std.proofs.Common.{◌≡◌, ◌+◌, ◌≤◌, ◌<◌, ℕ, List, [], ◌∷◌, length, Bool, true, false, cond, refl, sym, ap, subst, arith}
use Rattle.std.specs.Prelude.{Option, None}
use Rattle.aql_tree.specs.declared.syntax.Ident.{Ident}
use Rattle.aql_tree.specs.Tree.{ExprTree, literal, variable, current, array_literal, object_literal, access, function_call, unary_of, chain, array_comparison, ternary, range_of, subquery, ExprTrees, LinkTrees, no_links, link_then}
use Rattle.aql_meaning.specs.Documents.{Last}
use Rattle.aql_plan.specs.declared.facts.Facts.{Facts}
use Rattle.aql_plan.specs.FirstPlan.{all_and, right_sides, conjuncts}
use Rattle.aql_plan.specs.Nodes.{weight, weight_in}
use Rattle.aql_plan.specs.Plan.{Plan, Node}
use Rattle.aql_meaning.specs.Uses.{Uses}
use Rattle.aql_rewrite.specs.declared.swap.Rename.{Rename}
use Rattle.aql_rewrite.specs.Places.{Rewriting, Stays}
use Rattle.aql_rewrite.specs.Size.{size, links_size, size_all}
use Rattle.aql_rewrite.specs.Sums.{total, node_total}
use Rattle.aql_rules_filter.specs.Conditions.{and_links, all_of}
use Rattle.aql_rules_index.specs.Measures.{is_enumeration, condition_size, nothing}
use Rattle.aql_rules_index.specs.RemoveFilterCoveredByIndex.{Drops, no_more, keeps, drops, DropsAll, RemovesCovered, some_left, none_left}
use Rattle.aql_rules_index.specs.UseIndexes.{UsesIndex, used}
use Rattle.aql_rules_index.specs.UseIndexForSort.{Orders, enumeration, by_index, below, SortsByIndex, sorted}

-- what a rule makes of a part does not hang on what the nodes above use, and it renames nothing
abbrev pub LooksAtPart : (Facts → Rewriting) → Type 0
LooksAtPart R = (facts : Facts) (us vs : Uses) (p q : Plan) (r : Option Rename) → R facts us p q r
    → R facts vs p q r × (r ≡ None)

-- each application to a part lowers the number of its nodes and what they count beside
abbrev pub Shrinks : (Node → ℕ) → (Facts → Rewriting) → Type 0
Shrinks count R = (facts : Facts) (us : Uses) (p q : Plan) (r : Option Rename) → R facts us p q r
    → weight q + total count q < weight p + total count p

-- ---- use-indexes

pub uses_look : LooksAtPart UsesIndex
uses_look facts _ vs _ _ _ (used f a h) = (used f a h, refl)

pub uses_shrink : Shrinks is_enumeration UsesIndex
uses_shrink facts _ _ _ _ (used f a h) = omega arith

-- ---- remove-filter-covered-by-index

pub size_is_positive : (e : ExprTree) → 1 ≤ size e
size_is_positive (literal v) = omega arith
size_is_positive (variable x) = omega arith
size_is_positive current = omega arith
size_is_positive (array_literal es) = omega arith
size_is_positive (object_literal ms) = omega arith
size_is_positive (access e ss) = omega arith
size_is_positive (function_call name es) = omega arith
size_is_positive (unary_of op e) = omega arith
size_is_positive (chain e ls) = omega arith
size_is_positive (array_comparison a kind op b) = omega arith
size_is_positive (ternary test first other) = omega arith
size_is_positive (range_of a b) = omega arith
size_is_positive (subquery q) = omega arith

-- as much goes of the size as items go, or more
left_sizes : {names : List (List ℕ)} {x : Ident} {equal : ExprTrees} {last : Last ExprTree}
    {es left : List ExprTree} → Drops names x equal last es left
    → size_all left + length es ≤ size_all es + length left
left_sizes no_more = omega arith
left_sizes (keeps h) = omega (arith, left_sizes h)
left_sizes (drops {e = e} goes h) = omega (arith, left_sizes h, size_is_positive e)

sides_size : (ls : LinkTrees) → size_all (right_sides ls) ≡ links_size ls
sides_size no_links = refl
sides_size (link_then op e ls) = ap (λ n. size e + n) (sides_size ls)

and_size : (es : List ExprTree) → links_size (and_links es) ≡ size_all es
and_size [] = refl
and_size (e ∷ es) = ap (λ n. size e + n) (and_size es)

all_size : (e : ExprTree) (es : List ExprTree) → size (all_of (e ∷ es)) ≤ size_all (e ∷ es) + 2
all_size e [] = omega arith
all_size e (f ∷ fs) = omega (arith, and_size (f ∷ fs))

-- a condition with two conjuncts or more is a chain of them
conjuncts_size : (c : ExprTree) → 2 ≤ length (conjuncts c) → size_all (conjuncts c) + 2 ≤ size c
conjuncts_size (chain e ls) = by (all_and ls)
  where
    by : (b : Bool) → 2 ≤ length (cond b (e ∷ right_sides ls) (chain e ls ∷ []))
        → size_all (cond b (e ∷ right_sides ls) (chain e ls ∷ [])) + 2 ≤ size (chain e ls)
    by true h = omega (arith, sides_size ls)
    by false h = absurd (omega (arith, h))
conjuncts_size c = λ h. absurd (omega (arith, h))

-- where one or more go, what is left is smaller than the condition
pub smaller_condition : {names : List (List ℕ)} {x : Ident} {equal : ExprTrees} {last : Last ExprTree}
    (c e : ExprTree) (left : List ExprTree) → DropsAll names x equal last (conjuncts c) (e ∷ left)
    → size (all_of (e ∷ left)) < size c
smaller_condition c e left h = omega (
  arith,
  all_size e left,
  left_sizes h.0,
  h.1,
  conjuncts_size c (omega (arith, h.1)),
)

pub covered_look : LooksAtPart RemovesCovered
covered_look facts _ vs _ _ _ (some_left a h) = (some_left a h, refl)
covered_look facts _ vs _ _ _ (none_left a h) = (none_left a h, refl)

pub covered_shrink : Shrinks condition_size RemovesCovered
covered_shrink facts _ _ _ _ (some_left {c = c} {e = e} {left = left} a h) =
    omega (arith, smaller_condition c e left h)
covered_shrink facts _ _ _ _ (none_left a h) = omega arith

-- ---- use-index-for-sort

module _ {facts : Facts} {descending : Bool} {names : List (List ℕ)} {es : ExprTrees} where
  pub as_heavy : {b c : Plan} → Orders facts descending names es b c → weight c ≡ weight b
  as_heavy (enumeration single a keys first) = refl
  as_heavy (by_index single a keys sorts range first) = refl
  as_heavy (below {n = n} l h) = ap (λ m. m + (weight_in n + 1)) (as_heavy h)

  as_many : {b c : Plan} → Orders facts descending names es b c → total nothing c ≡ total nothing b
  as_many (enumeration single a keys first) = refl
  as_many (by_index single a keys sorts range first) = refl
  as_many (below {n = n} l h) = ap (λ m. m + node_total nothing n) (as_many h)

pub sorts_look : LooksAtPart SortsByIndex
sorts_look facts _ vs _ _ _ (sorted o) = (sorted o, refl)

pub sorts_shrink : Shrinks nothing SortsByIndex
sorts_shrink facts _ _ _ _ (sorted o) = omega (arith, as_heavy o, as_many o)

-- ---- what is used above may be anything

module _ (R : Facts → Rewriting) (look : LooksAtPart R) (facts : Facts) (us : Uses) (p : Plan) where
  pub stays_under : Stays (R facts) [] p → Stays (R facts) us p
  stays_under s q r h = s q r (look facts us [] p q r h).0

  pub made_under : (q s : Plan) → R facts [] p s None → q ≡ s → R facts us p q None
  made_under q s h e = subst (λ (t : Plan). R facts us p t None) (sym e) (look facts [] us p s None h).0
