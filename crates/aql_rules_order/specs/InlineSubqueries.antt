-- The rule inline-subqueries: a FOR over the values of a subquery whose variable is used nowhere else, and
-- which runs over one row, becomes the subquery's own nodes over that row, with the value that it returned.
-- DISTINCT may not stand at its RETURN, and no Collect on its own spine.
use Rattle.std.specs.Prelude.{◌≡◌, Bool, true, false, Option, None}
use Rattle.aql_tree.specs.declared.syntax.Ident.{Ident}
use Rattle.aql_tree.specs.Tree.{ExprTree, variable}
use Rattle.aql_meaning.specs.Uses.{Uses, is_used}
use Rattle.aql_plan.specs.Plan.{Plan, Singleton, Over, EnumerateList, Calculation, Subquery, Collect, Return}
use Rattle.aql_rewrite.specs.declared.swap.Rename.{Rename}

-- the start row alone, with values that are set in it
abbrev pub is_single : Plan → Bool
is_single Singleton = true
is_single (Over b (Calculation x e)) = is_single b
is_single (Over b (Subquery x s)) = is_single b
is_single (Over b n) = false

-- whether a Collect stands on the spine
abbrev pub has_collect : Plan → Bool
has_collect Singleton = false
has_collect (Over b (Collect xs es gs i s)) = true
has_collect (Over b n) = has_collect b

-- the plan over another one in place of its start row
abbrev pub started_from : Plan → Plan → Plan
started_from p Singleton = p
started_from p (Over b n) = Over (started_from p b) n

pub data Inlines : Uses → Plan → Plan → Option Rename → Type 0 where
  inlined : {us : Uses} {p b : Plan} {s x : Ident} {e : ExprTree} → is_used s us ≡ false
      → is_single p ≡ true → has_collect b ≡ false
      → Inlines us (Over (Over p (Subquery s (Over b (Return false e)))) (EnumerateList x (variable s)))
      (Over (started_from p b) (Calculation x e)) None
