-- The rule move-calculations-up: a Calculation over an EnumerateCollection, EnumerateList, Traversal or Sort,
-- or a Subquery over one of the first three, swaps places with it where it uses no variable that the lower
-- node sets.
use Rattle.std.specs.Prelude.{ℕ, ◌≡◌, ◌+◌, List, Bool, true, false, not, Option, None}
use Rattle.std.specs.List.{list_all}
use Rattle.aql_tree.specs.declared.syntax.Ident.{Ident}
use Rattle.aql_meaning.specs.Uses.{Uses, is_used}
use Rattle.aql_plan.specs.Plan.{Plan, Singleton, Over, Node, EnumerateCollection, EnumerateList, Traversal, Calculation, Subquery, Sort}
use Rattle.aql_plan.specs.Needs.{sets}
use Rattle.aql_rewrite.specs.declared.swap.Rename.{Rename}
use Rattle.aql_rewrite.specs.Nodes.{uses_alone}

-- the nodes that may make many rows of one
abbrev pub enumerates : Node → Bool
enumerates (EnumerateCollection x) = true
enumerates (EnumerateList x e) = true
enumerates (Traversal w e colls prune keep) = true
enumerates n = false

abbrev pub enumerates_or_sorts : Node → Bool
enumerates_or_sorts (Sort directions es n) = true
enumerates_or_sorts n = enumerates n

-- the upper node may go below the lower one
abbrev pub may_pass : Node → Node → Bool
may_pass (Calculation x e) lower = enumerates_or_sorts lower
may_pass (Subquery x s) lower = enumerates lower
may_pass upper lower = false

-- none of these variables is used
abbrev pub none_used : List Ident → Uses → Bool
none_used xs us = list_all (λ x. not (is_used x us)) xs

pub data Moves : Uses → Plan → Plan → Option Rename → Type 0 where
  swapped : {us : Uses} {b : Plan} {upper lower : Node} → may_pass upper lower ≡ true
      → none_used (sets lower) (uses_alone upper) ≡ true
      → Moves us (Over (Over b lower) upper) (Over (Over b upper) lower) None
