-- Conditions of several parts, and steps.
use Rattle.std.specs.Prelude.{ℕ, List, Bool, false, Option, Some, None}
use Rattle.aql_tree.specs.Tree.{ExprTree, chain}
use Rattle.aql_tree.specs.View.{StepPart, name}
use Rattle.aql_plan.specs.FirstPlan.{all_and}

-- a chain of which all links are `&&`
abbrev pub is_and_chain : ExprTree → Bool
is_and_chain (chain e ls) = all_and ls
is_and_chain e = false

-- the attribute that a step takes
abbrev pub name_in : StepPart → Option (List ℕ)
name_in (name n) = Some n
name_in s = None
