-- The rule remove-unnecessary-filters: a Filter with a literal goes where this is true-like, and becomes
-- NoResults where it is not.
use Rattle.std.specs.Prelude.{◌≡◌, true, false, Option, None}
use Rattle.aql_value.specs.Datum.{Datum}
use Rattle.aql_value.specs.Truth.{truth}
use Rattle.aql_tree.specs.Tree.{literal}
use Rattle.aql_meaning.specs.Uses.{Uses}
use Rattle.aql_plan.specs.Plan.{Plan, Over, Filter, NoResults}
use Rattle.aql_rewrite.specs.declared.swap.Rename.{Rename}

pub data Removes : Uses → Plan → Plan → Option Rename → Type 0 where
  passing : {us : Uses} {b : Plan} {v : Datum} → truth v ≡ true
      → Removes us (Over b (Filter (literal v))) b None
  failing : {us : Uses} {b : Plan} {v : Datum} → truth v ≡ false
      → Removes us (Over b (Filter (literal v))) (Over b NoResults) None
