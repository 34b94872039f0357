-- What distribute-sort-to-cluster sees of a part, and what it makes of one.
use Rattle.std.specs.Prelude.{ℕ, ◌≡◌, List, Bool, cond, Option, Some, None}
use Rattle.aql_tree.specs.Tree.{ExprTrees}
use Rattle.aql_plan.specs.Plan.{Plan, Singleton, Over, Node, Sort, Limit, Remote}
use Rattle.aql_plan.specs.View.{directions, key_trees}
use Rattle.aql_rules_cluster.specs.declared.sortings.Sorting as code
use Rattle.aql_rules_cluster.specs.DistributeSortToCluster.{sorted_on_shards}
use Rattle.aql_rules_cluster.specs.inner.Fragments.{is_gathered}

-- how rows are sorted, and how many first ones are kept, if not all
pub record Sorting : Type 0 where
  pub directions : List Bool
  pub keys : ExprTrees
  pub limit : Option ℕ

-- a Sort, over a Gather or not
abbrev pub sorting_by : Node → Bool → Option Sorting
sorting_by (Sort directions keys limit) gathered =
    cond gathered (Some (record { directions = directions; keys = keys; limit = limit })) None
sorting_by n gathered = None

abbrev pub sorting : Plan → Option Sorting
sorting Singleton = None
sorting (Over b n) = sorting_by n (is_gathered b)

-- as the program holds it
abbrev pub sorting_tree : code.Sorting → Sorting
sorting_tree s = record {
  directions = directions s.order;
  keys = key_trees s.order;
  limit = s.limit;
}

-- where there is a limit, only as many first rows are kept
abbrev pub limited : Option ℕ → Plan → Plan
limited None p = p
limited (Some limit) p = Over p (Limit 0 limit)

-- q is p with its Sort in the fragment
abbrev pub IsSortedInside : Sorting → Plan → Plan → Type 0
IsSortedInside s p q = (fragment : Plan) (m : Node)
    → p ≡ Over (Over (Over fragment Remote) m) (Sort s.directions s.keys s.limit)
    → q ≡ limited s.limit (sorted_on_shards fragment s.directions s.keys s.limit)
