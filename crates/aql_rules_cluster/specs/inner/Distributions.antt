-- What distribute-in-cluster sees of a part, and what it makes the foot of the fragment.
use Rattle.std.specs.Prelude.{ℕ, ◌≡◌, Option, Some, None}
use Rattle.aql_tree.specs.Tree.{ExprTrees}
use Rattle.aql_plan.specs.declared.facts.Facts.{Facts}
use Rattle.aql_plan.specs.Plan.{Plan, Over, Node, Scatter, Distribute}
use Rattle.aql_rules_cluster.specs.DistributeInCluster.{SendsByKeys}
use Rattle.aql_rules_cluster.specs.inner.Bottoms.{gathered_bottom}

-- the collection of a Scatter to all shards
abbrev pub scattered : Node → Option ℕ
scattered (Scatter coll None) = Some coll
scattered n = None

-- the Distribute that may be the foot of the fragment below the top node, in place of a Scatter to all shards
pub record IsDistribution (facts : Facts) (p : Plan) (m : Node) : Type 0 where
  pub lowest : Node
  pub input : Plan
  pub coll : ℕ
  pub es : ExprTrees
  pub found : gathered_bottom p ≡ Some (record { lowest = lowest; foot = Over input (Scatter coll None) })
  pub sends : SendsByKeys facts coll lowest es
  pub is : m ≡ Distribute coll es
