-- The rule move-filters-up: a Filter over an EnumerateCollection, EnumerateList, Traversal, Calculation,
-- Subquery or a Sort without limit swaps places with it where the condition uses no variable that the node
-- sets.
use Rattle.std.specs.Prelude.{◌≡◌, List, Bool, true, false, not, Option, None}
use Rattle.std.specs.List.{list_all}
use Rattle.aql_tree.specs.declared.syntax.Ident.{Ident}
use Rattle.aql_tree.specs.Tree.{ExprTree}
use Rattle.aql_meaning.specs.Uses.{Uses, uses, is_used}
use Rattle.aql_plan.specs.Plan.{Plan, Over, Node, EnumerateCollection, EnumerateList, Traversal, Calculation, Subquery, Filter, Sort}
use Rattle.aql_plan.specs.Needs.{sets}
use Rattle.aql_rewrite.specs.declared.swap.Rename.{Rename}

-- the nodes with which a Filter may swap places
abbrev pub may_swap : Node → Bool
may_swap (EnumerateCollection x) = true
may_swap (EnumerateList x e) = true
may_swap (Traversal w e colls prune keep) = true
may_swap (Calculation x e) = true
may_swap (Subquery x s) = true
may_swap (Sort directions es None) = true
may_swap n = false

-- none of these variables is used
abbrev pub none_used : List Ident → Uses → Bool
none_used xs us = list_all (λ x. not (is_used x us)) xs

pub data MovesUp : Uses → Plan → Plan → Option Rename → Type 0 where
  swapped : {us : Uses} {b : Plan} {n : Node} {c : ExprTree} → may_swap n ≡ true
      → none_used (sets n) (uses c) ≡ true
      → MovesUp us (Over (Over b n) (Filter c)) (Over (Over b (Filter c)) n) None
