-- What a rule shows of each part that it puts in the place of another: it refines the old one for what is
-- used above, a well-formed plan stays so, and it sets only what the old one sets.
use Rattle.std.specs.Prelude.{ℕ, ◌≡◌, ◌≤◌, List, Bool, true, false, cond, Option, Some, None}
use Rattle.std.specs.List.{list_any}
use Rattle.aql_tree.specs.declared.syntax.Ident.{Ident}
use Rattle.aql_tree.specs.declared.syntax.Ident.TheVariants.{Num}
use Rattle.aql_meaning.specs.Row.{same_ident}
use Rattle.aql_meaning.specs.Uses.{Uses, is_used}
use Rattle.aql_plan.specs.declared.facts.Facts.{Facts}
use Rattle.aql_plan.specs.Plan.{Plan}
use Rattle.aql_plan.specs.Variables.{vars_of, FindsAll, vars_set, count}
use Rattle.aql_plan.specs.Refines.{RefinesFor}
use Rattle.aql_plan.specs.Renaming.{RefinesRenamed}
use Rattle.aql_plan.specs.Shapes.{KeepsShape}
use Rattle.aql_rewrite.specs.declared.swap.Rename.{Rename}
use Rattle.aql_rewrite.specs.Placed.{Suits}

-- q refines p for what is used above; with a renaming, as if the first variable had the value of the second,
-- where p sets both. Only rules for plans without fragments rename.
abbrev pub Replaced : Bool → Facts → Uses → Plan → Plan → Option Rename → Type 0
Replaced fragments facts us p q None = RefinesFor us facts q p
Replaced fragments facts us p q (Some r) = (fragments ≡ false)
    × RefinesRenamed (Num r.from) (Num r.to) us facts q p
    × (1 ≤ count (Num r.from) (vars_set p)) × (1 ≤ count (Num r.to) (vars_set p))

-- what a variable is called in the nodes above
abbrev pub goes_by : Option Rename → Ident → Ident
goes_by None x = x
goes_by (Some r) x = cond (same_ident (Num r.from) x) (Num r.to) x

-- each variable that is used and was there is there, by its name in the nodes above
abbrev pub KeepsVariables : Option Rename → Uses → List Ident → List Ident → Type 0
KeepsVariables r us xs ys = (x : Ident) → is_used x us ≡ true → list_any (same_ident x) xs ≡ true
    → list_any (same_ident (goes_by r x)) ys ≡ true

-- q sets each variable at most as often as p
abbrev pub SetsNoMore : Plan → Plan → Type 0
SetsNoMore p q = (x : Ident) → count x (vars_set q) ≤ count x (vars_set p)

-- a well-formed plan stays so with q in the place of p
pub record KeepsPlaced (fragments inside : Bool) (facts : Facts) (outer : List Ident) (us : Uses)
    (p q : Plan) (r : Option Rename) : Type 0 where
  pub suits : Suits fragments facts q
  pub shape : KeepsShape inside facts q p
  pub found : FindsAll outer q
  pub vars : KeepsVariables r us (vars_of outer p) (vars_of outer q)
  pub fewer : SetsNoMore p q
