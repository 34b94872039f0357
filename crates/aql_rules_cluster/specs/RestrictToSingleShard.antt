-- The rule restrict-to-single-shard (Cluster: sharding): where there is a server, and constants give the
-- shard keys of all documents that the lowest node of a fragment finds, the fragment runs on the shard of
-- these values alone.
use Rattle.std.specs.Prelude.{ℕ, ◌≡◌, ◌≤◌, List, [], Bool, true, false, ◌||◌, ◌&&◌, Option, Some, None}
use Rattle.aql_value.specs.Shards.{shard_of}
use Rattle.aql_tree.specs.Tree.{ExprTrees}
use Rattle.aql_meaning.specs.AtRows.{keys_of}
use Rattle.aql_meaning.specs.Plain.{AllPlain}
use Rattle.aql_meaning.specs.Row.{empty_row}
use Rattle.aql_meaning.specs.Uses.{Uses}
use Rattle.aql_plan.specs.declared.facts.Facts.{Facts}
use Rattle.aql_plan.specs.Facts.{shards_in}
use Rattle.aql_plan.specs.Plan.{Plan, Singleton, Over, Node, Collect, Scatter, Distribute}
use Rattle.aql_rewrite.specs.declared.swap.Rename.{Rename}
use Rattle.aql_rules_cluster.specs.declared.key_items.Wanted.TheVariants.{Apart, Constant}
use Rattle.aql_rules_cluster.specs.DistributeFiltercalcToCluster.{gathered}
use Rattle.aql_rules_cluster.specs.FragmentParts.{over_link, is_foot, ReadsHere, SameAbove}
use Rattle.aql_rules_cluster.specs.KeyItems.{GivesKeys}

-- a foot that takes each row to all shards, or to that of the expressions which give the shard keys of the
-- documents that the lowest node finds
pub data TakesToAll (facts : Facts) (coll : ℕ) (n : Node) : Node → Type 0 where
  all_rows : TakesToAll facts coll n (Scatter coll None)
  sent_rows : {es : ExprTrees} → AllPlain es → GivesKeys facts Apart n es
      → TakesToAll facts coll n (Distribute coll es)

-- a node that gives no row where none comes: any but a COLLECT without criteria
abbrev pub gives_none : Node → Bool
gives_none (Collect [] es gs i s) = false
gives_none n = true

-- all nodes of a fragment do, down to its foot
abbrev pub none_of_none : Plan → Bool
none_of_none Singleton = true
none_of_none (Over b n) = is_foot n || (gives_none n && none_of_none b)

-- the shard of the values of constants
abbrev pub shard_for : Facts → ℕ → ExprTrees → ℕ
shard_for facts coll es = shard_of (shards_in facts coll) (keys_of es empty_row)

-- a foot of one shard for that of all: of a lowest node n that finds only documents of this shard
pub record Narrows (facts : Facts) (n foot narrower : Node) : Type 0 where
  pub coll : ℕ
  pub constants : ExprTrees
  pub some_shard : 1 ≤ shards_in facts coll
  pub reads : ReadsHere coll n
  pub takes : TakesToAll facts coll n foot
  pub given : GivesKeys facts Constant n constants
  pub is : narrower ≡ Scatter coll (Some (shard_for facts coll constants))

pub data Restricts (facts : Facts) : Uses → Plan → Plan → Option Rename → Type 0 where
  restricted : {us : Uses} {b p q : Plan} {n foot narrower : Node} {directions : List Bool} {keys : ExprTrees}
      → 1 ≤ facts.servers → Narrows facts n foot narrower
      → SameAbove (over_link (Over b foot) n) (over_link (Over b narrower) n) p q → none_of_none p ≡ true
      → Restricts facts us (gathered directions keys p) (gathered directions keys q) None
