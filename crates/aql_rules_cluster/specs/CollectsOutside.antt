-- What falls with each application of collect-in-cluster, so that its pass ends; no rule's meaning rests on it.
use Rattle.std.specs.Prelude.{ℕ, ◌+◌, Bool, true, false}
use Rattle.aql_meaning.specs.declared.grouping.Stage.TheVariants.{Whole}
use Rattle.aql_plan.specs.Above.{input_inside}
use Rattle.aql_plan.specs.Plan.{Plan, Singleton, Over, Node, Collect, Subquery}

abbrev mutual
  -- the Collects in one stage outside fragments, those of bodies too; `inside` tells whether the plan itself
  -- stands in a fragment
  pub collects_outside : Bool → Plan → ℕ
  collects_outside inside Singleton = 0
  collects_outside inside (Over b n) = collects_outside (input_inside n inside) b + collect_outside inside n

  pub collect_outside : Bool → Node → ℕ
  collect_outside inside (Subquery x s) = collects_outside false s
  collect_outside true n = 0
  collect_outside false (Collect xs es gs i Whole) = 1
  collect_outside false n = 0
