-- The rule scatter-in-cluster (Cluster: query execution): where there is a server, each node outside
-- fragments that reads a collection reads in a fragment on all shards of the collection. What an ordered
-- Index gives there is merged by the attributes of the index, in its direction.
use Rattle.std.specs.Prelude.{ℕ, ◌≤◌, List, [], map, Bool, Option, Some, None}
use Rattle.aql_tree.specs.Tree.{ExprTree, ExprTrees, no_exprs}
use Rattle.aql_meaning.specs.Documents.{Last}
use Rattle.aql_meaning.specs.Uses.{Uses}
use Rattle.aql_plan.specs.declared.facts.Facts.{Facts}
use Rattle.aql_plan.specs.Facts.{attributes_in}
use Rattle.aql_plan.specs.Fits.{attribute_keys}
use Rattle.aql_plan.specs.Plan.{Reading, Plan, Over, Node, EnumerateCollection, Index, Scatter, Remote, Gather}
use Rattle.aql_rewrite.specs.declared.swap.Rename.{Rename}

-- a node in a fragment on all shards of a collection, over b; a Gather with these keys makes one list of what
-- they give
abbrev pub on_all_shards : ℕ → List Bool → ExprTrees → Node → Plan → Plan
on_all_shards coll directions keys n b =
    Over (Over (Over (Over (Over b (Scatter coll None)) Remote) n) Remote) (Gather directions keys)

pub data Scatters (facts : Facts) : Uses → Plan → Plan → Option Rename → Type 0 where
  enumeration : {us : Uses} {b : Plan} {x : Reading} → 1 ≤ facts.servers
      → Scatters facts us (Over b (EnumerateCollection x))
      (on_all_shards x.coll [] no_exprs (EnumerateCollection x) b) None
  by_index : {us : Uses} {b : Plan} {x : Reading} {index : ℕ} {equal : ExprTrees} {last : Last ExprTree}
      → 1 ≤ facts.servers
      → Scatters facts us (Over b (Index x index equal last None))
      (on_all_shards x.coll [] no_exprs (Index x index equal last None) b) None
  in_index_order : {us : Uses} {b : Plan} {x : Reading} {index : ℕ} {equal : ExprTrees}
      {last : Last ExprTree} {descending : Bool} → 1 ≤ facts.servers
      → Scatters facts us (Over b (Index x index equal last (Some descending)))
      (on_all_shards x.coll (map (λ name. descending) (attributes_in facts x.coll index))
      (attribute_keys x.var (attributes_in facts x.coll index))
      (Index x index equal last (Some descending)) b) None
