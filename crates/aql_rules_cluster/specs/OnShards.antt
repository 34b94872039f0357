-- Plans that read on shards alone (Cluster: query execution): where there is a server, each node that reads a
-- collection stands in a fragment.
use Rattle.std.specs.Prelude.{◌≡◌, ◌≤◌, Bool, true, false}
use Rattle.aql_plan.specs.declared.facts.Facts.{Facts}
use Rattle.aql_plan.specs.Above.{input_inside}
use Rattle.aql_plan.specs.Plan.{Plan, Singleton, Over, Node, EnumerateCollection, Index, Subquery}

abbrev mutual
  -- each such node of a plan does, those of bodies too; `inside` tells whether the plan itself stands in one
  pub ReadsInFragments : Bool → Plan → Type 0
  ReadsInFragments inside Singleton = Unit {0}
  ReadsInFragments inside (Over b n) = ReadsInFragments (input_inside n inside) b × IsInFragment inside n

  pub IsInFragment : Bool → Node → Type 0
  IsInFragment inside (EnumerateCollection x) = inside ≡ true
  IsInFragment inside (Index x index equal last ordered) = inside ≡ true
  IsInFragment inside (Subquery x s) = ReadsInFragments false s
  IsInFragment inside n = Unit {0}

abbrev pub ReadsOnShards : Facts → Plan → Type 0
ReadsOnShards facts p = 1 ≤ facts.servers → ReadsInFragments false p
