-- How a part stands in a well-formed plan that a rule takes.
use Rattle.std.specs.Prelude.{◌≡◌, ◌+◌, ◌≤◌, List, [], ◌++◌, Bool, true, false}
use Rattle.std.specs.List.{AllByRecursion}
use Rattle.aql_tree.specs.declared.syntax.Ident.{Ident}
use Rattle.aql_tree.specs.declared.syntax.Ident.TheVariants.{Num}
use Rattle.aql_meaning.specs.Row.{same_ident}
use Rattle.aql_meaning.specs.Numbered.{IsNumber}
use Rattle.aql_meaning.specs.Uses.{Uses}
use Rattle.aql_plan.specs.declared.facts.Facts.{Facts}
use Rattle.aql_plan.specs.Plan.{Plan}
use Rattle.aql_plan.specs.Variables.{vars_of, are_among, FindsAll, vars_set, count}
use Rattle.aql_plan.specs.Shapes.{Shape, Shaped, is_inside, HasNoFragment}
use Rattle.aql_plan.specs.WellFormed.{CollectionFits, IsWellFormed}

-- the plans that a rule takes: those without fragments, or, where there is a server, those with fragments too
abbrev pub Suits : Bool → Facts → Plan → Type 0
Suits false facts p = HasNoFragment p
Suits true facts p = 1 ≤ facts.servers

-- a whole plan
abbrev pub IsWhole : Bool → Facts → Plan → Type 0
IsWhole fragments facts p = IsWellFormed facts [] p × Suits fragments facts p

-- a part, where `inside` tells whether it stands in a fragment, `outer` are the variables of its start row,
-- `away` those that other parts of the plan set, and `us` is what the nodes above use of its rows
pub record Placed (fragments inside : Bool) (facts : Facts) (outer away : List Ident) (us : Uses)
    (p : Plan) : Type 0 where
  pub known : AllByRecursion CollectionFits facts.collections
  pub suits : Suits fragments facts p
  pub shaped : (s : Shape) × (is_inside s ≡ inside) × Shaped facts p s
  pub found : FindsAll outer p
  -- what is used is there, or set by another part
  pub used : are_among us (away ++ vars_of outer p) ≡ true
  -- each variable is set once in the plan; what a Return gives is no variable
  pub once : (x : Ident) → same_ident x (Num 0) ≡ false
      → count x (vars_set p) + (count x away + count x outer) ≤ 1
  pub numbers : AllByRecursion IsNumber (vars_set p)

abbrev pub IsPlaced : Bool → Bool → Facts → Uses → Plan → Type 0
IsPlaced fragments inside facts us p =
    (outer : List Ident) × (away : List Ident) × Placed fragments inside facts outer away us p
