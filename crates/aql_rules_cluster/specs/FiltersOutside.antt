-- What falls with each application of distribute-filtercalc-to-cluster, so that its pass ends; the rule's
-- meaning does not rest on it.
use Rattle.std.specs.Prelude.{ℕ, ◌+◌, Bool, true, false}
use Rattle.aql_plan.specs.Above.{input_inside}
use Rattle.aql_plan.specs.Plan.{Plan, Singleton, Over, Node, Calculation, Subquery, Filter}

abbrev mutual
  -- the Filters and Calculations outside fragments, those of bodies too; `inside` tells whether the plan
  -- itself stands in a fragment
  pub filters_outside : Bool → Plan → ℕ
  filters_outside inside Singleton = 0
  filters_outside inside (Over b n) = filters_outside (input_inside n inside) b + filter_outside inside n

  pub filter_outside : Bool → Node → ℕ
  filter_outside inside (Subquery x s) = filters_outside false s
  filter_outside true n = 0
  filter_outside false (Filter e) = 1
  filter_outside false (Calculation x e) = 1
  filter_outside false n = 0
