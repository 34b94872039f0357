-- The rule distribute-filtercalc-to-cluster (Cluster: query execution): where there is a server, a Filter or
-- a Calculation over the Gather of a fragment goes into the fragment, so that each shard filters or computes
-- its own rows. The Gather keeps its keys.
use Rattle.std.specs.Prelude.{◌≤◌, List, Bool, Option, None}
use Rattle.aql_tree.specs.declared.syntax.Ident.{Ident}
use Rattle.aql_tree.specs.Tree.{ExprTree, ExprTrees}
use Rattle.aql_meaning.specs.Uses.{Uses}
use Rattle.aql_plan.specs.declared.facts.Facts.{Facts}
use Rattle.aql_plan.specs.Plan.{Plan, Over, Filter, Calculation, Remote, Gather}
use Rattle.aql_rewrite.specs.declared.swap.Rename.{Rename}

-- the rows of a fragment, over the link and as one list
abbrev pub gathered : List Bool → ExprTrees → Plan → Plan
gathered directions keys f = Over (Over f Remote) (Gather directions keys)

pub data MovesInside (facts : Facts) : Uses → Plan → Plan → Option Rename → Type 0 where
  filter_inside : {us : Uses} {f : Plan} {directions : List Bool} {keys : ExprTrees} {e : ExprTree}
      → 1 ≤ facts.servers
      → MovesInside facts us (Over (gathered directions keys f) (Filter e))
      (gathered directions keys (Over f (Filter e))) None
  calculation_inside : {us : Uses} {f : Plan} {directions : List Bool} {keys : ExprTrees} {x : Ident}
      {e : ExprTree} → 1 ≤ facts.servers
      → MovesInside facts us (Over (gathered directions keys f) (Calculation x e))
      (gathered directions keys (Over f (Calculation x e))) None
