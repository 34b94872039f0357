-- The bottom of a fragment as the program finds it, and the same fragment over another foot.
use Rattle.std.specs.Prelude.{ℕ, Bool, false, cond, ◌==◌, ◌&&◌, not, Option, Some, None, is_some}
use Rattle.aql_plan.specs.Plan.{Reading, Plan, Singleton, Over, Node, EnumerateCollection, Index, Remote, Gather, top}
use Rattle.aql_plan.specs.View.{node_tree, plan_tree}
use Rattle.aql_rules_cluster.specs.declared.bottoms.Bottom as code
use Rattle.aql_rules_cluster.specs.FragmentParts.{is_foot, is_above_foot}

-- the lowest node of a fragment, and its foot with all that is below
pub record Bottom : Type 0 where
  pub lowest : Node
  pub foot : Plan

-- as the program holds them
abbrev pub bottom_view : code.Bottom → Bottom
bottom_view b = record { lowest = node_tree b.lowest.now; foot = plan_tree b.foot.now }

-- the foot below a link
abbrev pub sent_foot : Plan → Option Plan
sent_foot (Over c Remote) = cond (is_foot (top c)) (Some c) None
sent_foot p = None

-- the node where there is a foot below its link, else what is below it
abbrev pub bottom_over : Node → Option Plan → Option Bottom → Option Bottom
bottom_over n (Some foot) below = Some (record { lowest = n; foot = foot })
bottom_over n None below = below

abbrev pub bottom : Plan → Option Bottom
bottom Singleton = None
bottom (Over b n) = cond (is_above_foot n) (bottom_over n (sent_foot b) (bottom b)) None

-- that of the fragment below a Gather over a link
abbrev pub sent_bottom : Plan → Option Bottom
sent_bottom (Over f Remote) = bottom f
sent_bottom p = None

abbrev pub gathered_bottom : Plan → Option Bottom
gathered_bottom (Over b (Gather directions keys)) = sent_bottom b
gathered_bottom p = None

-- the same nodes over another node as the foot
abbrev pub with_foot : Node → Plan → Plan
with_foot m Singleton = Singleton
with_foot m (Over b n) = cond (is_foot n) (Over b m) (Over (with_foot m b) n)

-- a node reads this collection, on the shard of its fragment
abbrev pub reads_there : ℕ → Reading → Bool
reads_there coll x = (x.coll == coll) && not (is_some x.shard)

abbrev pub reads_here : ℕ → Node → Bool
reads_here coll (EnumerateCollection x) = reads_there coll x
reads_here coll (Index x index equal last ordered) = reads_there coll x
reads_here coll n = false
