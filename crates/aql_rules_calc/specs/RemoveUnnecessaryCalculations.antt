-- The rule remove-unnecessary-calculations: a Calculation or Subquery whose variable is not used goes.
use Rattle.std.specs.Prelude.{◌≡◌, false, Option, None}
use Rattle.aql_tree.specs.declared.syntax.Ident.{Ident}
use Rattle.aql_tree.specs.Tree.{ExprTree}
use Rattle.aql_meaning.specs.Uses.{Uses, is_used}
use Rattle.aql_plan.specs.Plan.{Plan, Over, Calculation, Subquery}
use Rattle.aql_rewrite.specs.declared.swap.Rename.{Rename}

pub data Removes : Uses → Plan → Plan → Option Rename → Type 0 where
  calculation : {us : Uses} {b : Plan} {x : Ident} {e : ExprTree} → is_used x us ≡ false
      → Removes us (Over b (Calculation x e)) b None
  with_subquery : {us : Uses} {b s : Plan} {x : Ident} → is_used x us ≡ false
      → Removes us (Over b (Subquery x s)) b None
