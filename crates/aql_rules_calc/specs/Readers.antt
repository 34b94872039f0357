-- Parts of a plan's top node: for the contracts of private functions alone.
use Rattle.std.specs.Prelude.{◌≡◌, Bool, false, not, Option, Some, None}
use Rattle.aql_tree.specs.declared.syntax.Ident.{Ident}
use Rattle.aql_tree.specs.Tree.{ExprTree}
use Rattle.aql_meaning.specs.Uses.{Uses, is_used}
use Rattle.aql_plan.specs.Plan.{Plan, Over, Node, Calculation, Subquery, top}
use Rattle.aql_rewrite.specs.declared.swap.Rename.{Rename}
use Rattle.aql_rules_calc.specs.RemoveRedundantCalculations.{Redundant}

-- a Calculation or a Subquery whose variable is not used
abbrev pub is_unneeded : Uses → Node → Bool
is_unneeded us (Calculation x e) = not (is_used x us)
is_unneeded us (Subquery x s) = not (is_used x us)
is_unneeded us n = false

-- the input, the variable and the expression of a Calculation
abbrev pub calculation_in : Plan → Option (Plan × Ident × ExprTree)
calculation_in (Over b (Calculation x e)) = Some (b, x, e)
calculation_in p = None

-- a Calculation is redundant, or is not, whatever is used above
abbrev pub IsRedundant : Plan → Plan → Rename → Type 0
IsRedundant p b r = (us : Uses) → (p ≡ Over b (top p)) × Redundant us p b (Some r)

abbrev pub IsNotRedundant : Plan → Type 0
IsNotRedundant p = (us : Uses) (q : Plan) (r : Option Rename) → Redundant us p q r → ⊥
