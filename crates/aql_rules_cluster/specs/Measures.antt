-- What falls with each application of a rule, so that its pass ends; no rule's meaning rests on it.
use Rattle.std.specs.Prelude.{ℕ, ◌+◌, Bool, true, false}
use Rattle.aql_plan.specs.Above.{input_inside}
use Rattle.aql_plan.specs.Plan.{Plan, Singleton, Over, Node, EnumerateCollection, Index, Subquery}

abbrev mutual
  -- scatter-in-cluster: the nodes outside fragments that read a collection, those of bodies too; `inside`
  -- tells whether the plan itself stands in a fragment
  pub readers_outside : Bool → Plan → ℕ
  readers_outside inside Singleton = 0
  readers_outside inside (Over b n) = readers_outside (input_inside n inside) b + reads_outside inside n

  pub reads_outside : Bool → Node → ℕ
  reads_outside inside (Subquery x s) = readers_outside false s
  reads_outside true n = 0
  reads_outside false (EnumerateCollection x) = 1
  reads_outside false (Index x index equal last ordered) = 1
  reads_outside false n = 0
