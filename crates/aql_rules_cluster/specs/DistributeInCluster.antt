-- The rule distribute-in-cluster (Cluster: query execution; sharding): where there is a server, and the
-- lowest node of a fragment gives an expression for each shard key, the foot of the fragment sends each row
-- to the one shard of their values, where it sent the row to all shards.
use Rattle.std.specs.Prelude.{ℕ, ◌≤◌, List, Bool, Option, None}
use Rattle.aql_tree.specs.Tree.{ExprTrees}
use Rattle.aql_meaning.specs.Uses.{Uses}
use Rattle.aql_plan.specs.declared.facts.Facts.{Facts}
use Rattle.aql_plan.specs.Plan.{Plan, Over, Node, Scatter, Distribute}
use Rattle.aql_rewrite.specs.declared.swap.Rename.{Rename}
use Rattle.aql_rules_cluster.specs.declared.key_items.Wanted.TheVariants.{Apart}
use Rattle.aql_rules_cluster.specs.DistributeFiltercalcToCluster.{gathered}
use Rattle.aql_rules_cluster.specs.FragmentParts.{over_link, ReadsHere, SameAbove}
use Rattle.aql_rules_cluster.specs.KeyItems.{GivesKeys}

-- the node reads this collection on the shard of its fragment, and these are, key by key, the first
-- expressions that stand equal to the shard keys and do not use the document
abbrev pub SendsByKeys : Facts → ℕ → Node → ExprTrees → Type 0
SendsByKeys facts coll n es = ReadsHere coll n × GivesKeys facts Apart n es

pub data Distributes (facts : Facts) : Uses → Plan → Plan → Option Rename → Type 0 where
  distributed : {us : Uses} {b p q : Plan} {coll : ℕ} {n : Node} {es : ExprTrees} {directions : List Bool}
      {keys : ExprTrees} → 1 ≤ facts.servers → SendsByKeys facts coll n es
      → SameAbove (over_link (Over b (Scatter coll None)) n) (over_link (Over b (Distribute coll es)) n) p q
      → Distributes facts us (gathered directions keys p) (gathered directions keys q) None
