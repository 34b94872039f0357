-- The rule collect-in-cluster (Cluster: query execution): where there is a server, a COLLECT without INTO over
-- a Gather is done in two stages. In the fragment each shard groups its own rows, and over the Gather a final
-- stage joins the groups of all shards.
use Rattle.std.specs.Prelude.{◌≤◌, List, [], Bool, Option, None}
use Rattle.aql_tree.specs.declared.syntax.Ident.{Ident}
use Rattle.aql_tree.specs.Tree.{ExprTrees, no_exprs, AggregateTrees, no_into}
use Rattle.aql_meaning.specs.declared.grouping.Stage.TheVariants.{Whole, Partial, Final}
use Rattle.aql_meaning.specs.Uses.{Uses}
use Rattle.aql_plan.specs.declared.facts.Facts.{Facts}
use Rattle.aql_plan.specs.Plan.{Plan, Over, Collect, Remote, Gather}
use Rattle.aql_rewrite.specs.declared.swap.Rename.{Rename}

-- a fragment whose rows each shard groups, and a Gather in any order, over which they are grouped finally
abbrev pub in_two_stages : Plan → List Ident → ExprTrees → AggregateTrees → Plan
in_two_stages fragment xs es gs =
    Over (Over (Over (Over fragment (Collect xs es gs no_into Partial)) Remote) (Gather [] no_exprs))
    (Collect xs es gs no_into Final)

-- the Gather that goes may have keys
pub data CollectsInside (facts : Facts) : Uses → Plan → Plan → Option Rename → Type 0 where
  collected : {us : Uses} {fragment : Plan} {directions : List Bool} {keys : ExprTrees} {xs : List Ident}
      {es : ExprTrees} {gs : AggregateTrees} → 1 ≤ facts.servers
      → CollectsInside facts us
      (Over (Over (Over fragment Remote) (Gather directions keys)) (Collect xs es gs no_into Whole))
      (in_two_stages fragment xs es gs) None
