-- What falls with each application of distribute-sort-to-cluster, so that its pass ends; no rule's meaning
-- rests on it.
use Rattle.std.specs.Prelude.{ℕ, ◌+◌, Bool, true, false}
use Rattle.aql_plan.specs.Above.{input_inside}
use Rattle.aql_plan.specs.Plan.{Plan, Singleton, Over, Node, Sort, Subquery}

abbrev mutual
  -- the Sorts outside fragments, those of bodies too; `inside` tells whether the plan itself stands in a
  -- fragment
  pub sorts_outside : Bool → Plan → ℕ
  sorts_outside inside Singleton = 0
  sorts_outside inside (Over b n) = sorts_outside (input_inside n inside) b + sort_outside inside n

  pub sort_outside : Bool → Node → ℕ
  sort_outside inside (Subquery x s) = sorts_outside false s
  sort_outside true n = 0
  sort_outside false (Sort directions keys limit) = 1
  sort_outside false n = 0
