-- What scatter-in-cluster sees of a node, and what it makes of one.
use Rattle.std.specs.Prelude.{ℕ, ◌≡◌, List, [], map, Bool, Option, Some, None}
use Rattle.aql_tree.specs.declared.syntax.Ident.{Ident}
use Rattle.aql_tree.specs.Tree.{variable, access, no_steps, name_then, ExprTrees, no_exprs}
use Rattle.aql_tree.specs.View.{KeyPart}
use Rattle.aql_plan.specs.declared.facts.Facts.{Facts}
use Rattle.aql_plan.specs.Facts.{attributes_in}
use Rattle.aql_plan.specs.Fits.{attribute_keys}
use Rattle.aql_plan.specs.Plan.{Plan, Over, Node, EnumerateCollection, Index, top}
use Rattle.aql_plan.specs.View.{directions, key_trees}
use Rattle.aql_rules_cluster.specs.declared.gathers.Gathering as code
use Rattle.aql_rules_cluster.specs.ScatterInCluster.{on_all_shards}

-- the collection that a node reads, and the keys of the Gather over its fragment
pub record Gathering : Type 0 where
  pub coll : ℕ
  pub directions : List Bool
  pub keys : ExprTrees

-- in any order, or in that of an index
abbrev pub gathering_by : Facts → Ident → ℕ → ℕ → Option Bool → Gathering
gathering_by facts x coll index None = record { coll = coll; directions = []; keys = no_exprs }
gathering_by facts x coll index (Some descending) = record {
  coll = coll;
  directions = map (λ name. descending) (attributes_in facts coll index);
  keys = attribute_keys x (attributes_in facts coll index);
}

abbrev pub gathering : Facts → Node → Option Gathering
gathering facts (EnumerateCollection x) = Some (record { coll = x.coll; directions = []; keys = no_exprs })
gathering facts (Index x index equal last ordered) = Some (gathering_by facts x.var x.coll index ordered)
gathering facts n = None

-- as the program holds it
abbrev pub gathering_tree : code.Gathering → Gathering
gathering_tree g = record {
  coll = g.coll.0;
  directions = directions g.order;
  keys = key_trees g.order;
}

-- an attribute of a variable, as a key
abbrev pub key_by : Ident → Bool → List ℕ → KeyPart
key_by x descending name = (access (variable x) (name_then name no_steps), descending)

-- q is p with its top node in a fragment on all shards
abbrev pub IsOnAllShards : Gathering → Plan → Plan → Type 0
IsOnAllShards g p q =
    (b : Plan) → p ≡ Over b (top p) → q ≡ on_all_shards g.coll g.directions g.keys (top p) b
