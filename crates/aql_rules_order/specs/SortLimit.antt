-- The rule sort-limit: a Sort without limit below a Limit, with any number of Calculation and Subquery nodes
-- between, gets as its limit how many rows the Limit leaves out and keeps at most, together. In a well-formed
-- plan that sum has 64 bits.
use Rattle.std.specs.Prelude.{ℕ, ◌≡◌, ◌+◌, List, Bool, true, false, Option, Some, None}
use Rattle.aql_tree.specs.Tree.{ExprTrees}
use Rattle.aql_meaning.specs.Uses.{Uses}
use Rattle.aql_plan.specs.Plan.{Plan, Over, Node, Calculation, Subquery, Sort, Limit}
use Rattle.aql_rewrite.specs.declared.swap.Rename.{Rename}

-- nodes that give one row for each
abbrev pub sets_value : Node → Bool
sets_value (Calculation x e) = true
sets_value (Subquery x s) = true
sets_value n = false

-- a plan with this limit at a Sort that had none, at its top or below nodes that set a value
pub data Limited (limit : ℕ) : Plan → Plan → Type 0 where
  here : {b : Plan} {directions : List Bool} {es : ExprTrees}
      → Limited limit (Over b (Sort directions es None)) (Over b (Sort directions es (Some limit)))
  below : {b c : Plan} {n : Node} → sets_value n ≡ true → Limited limit b c
      → Limited limit (Over b n) (Over c n)

pub data Limits : Uses → Plan → Plan → Option Rename → Type 0 where
  limited : {us : Uses} {b c : Plan} {offset most : ℕ} → Limited (offset + most) b c
      → Limits us (Over b (Limit offset most)) (Over c (Limit offset most)) None
