-- The rule distribute-sort-to-cluster (Cluster: query execution): where there is a server, a Sort over a
-- Gather goes into the fragment, and a Gather merges by its keys what the shards sorted. Of a Sort with a
-- limit each shard gives its first rows, and the first of the merge are kept.
use Rattle.std.specs.Prelude.{ℕ, ◌≤◌, List, Bool, Option, Some, None}
use Rattle.aql_tree.specs.Tree.{ExprTrees}
use Rattle.aql_meaning.specs.Uses.{Uses}
use Rattle.aql_plan.specs.declared.facts.Facts.{Facts}
use Rattle.aql_plan.specs.Plan.{Plan, Over, Sort, Limit, Remote, Gather}
use Rattle.aql_rewrite.specs.declared.swap.Rename.{Rename}

-- a fragment that is sorted on each shard, and merged by the same keys
abbrev pub sorted_on_shards : Plan → List Bool → ExprTrees → Option ℕ → Plan
sorted_on_shards fragment directions keys limit =
    Over (Over (Over fragment (Sort directions keys limit)) Remote) (Gather directions keys)

-- the Gather that goes may have keys of its own
pub data SortsInside (facts : Facts) : Uses → Plan → Plan → Option Rename → Type 0 where
  sorted : {us : Uses} {fragment : Plan} {old directions : List Bool} {old_keys keys : ExprTrees}
      → 1 ≤ facts.servers
      → SortsInside facts us
      (Over (Over (Over fragment Remote) (Gather old old_keys)) (Sort directions keys None))
      (sorted_on_shards fragment directions keys None) None
  sorted_first : {us : Uses} {fragment : Plan} {old directions : List Bool} {old_keys keys : ExprTrees}
      {limit : ℕ} → 1 ≤ facts.servers
      → SortsInside facts us
      (Over (Over (Over fragment Remote) (Gather old old_keys)) (Sort directions keys (Some limit)))
      (Over (sorted_on_shards fragment directions keys (Some limit)) (Limit 0 limit)) None
