-- The rule remove-unnecessary-remote-scatter (Cluster: query execution): where a fragment takes its rows from
-- another one, each runs on one shard, and one server has both, the lowest node of the upper fragment reads
-- its shard in the lower one. The links between them go.
use Rattle.std.specs.Prelude.{ℕ, ◌≡◌, ◌≤◌, List, Bool, true, Option, Some, None}
use Rattle.aql_tree.specs.Tree.{ExprTrees}
use Rattle.aql_meaning.specs.Uses.{Uses}
use Rattle.aql_plan.specs.declared.facts.Facts.{Facts}
use Rattle.aql_plan.specs.Facts.{shards_in}
use Rattle.aql_plan.specs.Plan.{Plan, Over, Node, EnumerateCollection, Index, Scatter, Distribute}
use Rattle.aql_shard.specs.Sharding.{server_of}
use Rattle.aql_rewrite.specs.declared.swap.Rename.{Rename}
use Rattle.aql_rules_cluster.specs.DistributeFiltercalcToCluster.{gathered}
use Rattle.aql_rules_cluster.specs.FragmentParts.{over_link, is_above_foot, ReadsHere, SameAbove}

-- a fragment runs on this shard of this collection alone: on the one that its foot names, or on the only one
pub data RunsOnOne (facts : Facts) : Plan → ℕ → ℕ → Type 0 where
  named : {b : Plan} {coll shard : ℕ} → RunsOnOne facts (Over b (Scatter coll (Some shard))) coll shard
  scattered : {b : Plan} {coll : ℕ} → shards_in facts coll ≡ 1
      → RunsOnOne facts (Over b (Scatter coll None)) coll 0
  distributed : {b : Plan} {coll : ℕ} {es : ExprTrees} → shards_in facts coll ≡ 1
      → RunsOnOne facts (Over b (Distribute coll es)) coll 0
  above_foot : {b : Plan} {n : Node} {coll shard : ℕ} → is_above_foot n ≡ true → RunsOnOne facts b coll shard
      → RunsOnOne facts (Over b n) coll shard

-- a node that reads a shard of its own
abbrev pub with_shard : ℕ → Node → Node
with_shard shard (EnumerateCollection x) = EnumerateCollection (record {
  var = x.var;
  coll = x.coll;
  filter = x.filter;
  attrs = x.attrs;
  shard = Some shard;
})
with_shard shard (Index x index equal last ordered) = Index (record {
  var = x.var;
  coll = x.coll;
  filter = x.filter;
  attrs = x.attrs;
  shard = Some shard;
}) index equal last ordered
with_shard shard n = n

-- f is the lower fragment, and p the upper one, with n as its lowest node; the nodes above n stay, and so
-- does what is above the upper fragment
pub data Joins (facts : Facts) : Uses → Plan → Plan → Option Rename → Type 0 where
  joined : {us : Uses} {f p q : Plan} {n : Node} {low_coll low coll high : ℕ} {only : Option ℕ}
      {between directions : List Bool} {between_keys keys : ExprTrees}
      → 1 ≤ facts.servers → RunsOnOne facts f low_coll low
      → RunsOnOne facts (Over (gathered between between_keys f) (Scatter coll only)) coll high
      → server_of low_coll low facts.servers ≡ server_of coll high facts.servers → ReadsHere coll n
      → SameAbove (over_link (Over (gathered between between_keys f) (Scatter coll only)) n)
      (Over f (with_shard high n)) p q
      → Joins facts us (gathered directions keys p) (gathered directions keys q) None
