-- The parts of a fragment, as the rules that change its foot or its lowest node see them (Cluster: query
-- execution): a foot, the link over it, the lowest node, and the nodes above that one.
use Rattle.std.specs.Prelude.{ℕ, ◌≡◌, Bool, true, false, None}
use Rattle.aql_plan.specs.Plan.{Plan, Over, Node, EnumerateCollection, Index, Subquery, Scatter, Distribute, Remote, Gather}

-- a node over the link of a foot
abbrev pub over_link : Plan → Node → Plan
over_link foot n = Over (Over foot Remote) n

-- the feet of fragments
abbrev pub is_foot : Node → Bool
is_foot (Scatter coll only) = true
is_foot (Distribute coll es) = true
is_foot n = false

-- the nodes that may stand between a foot and its Gather, as far as rules look
abbrev pub is_above_foot : Node → Bool
is_above_foot (Scatter coll only) = false
is_above_foot (Distribute coll es) = false
is_above_foot (Gather directions keys) = false
is_above_foot (Subquery x body) = false
is_above_foot n = true

-- a node that reads this collection, on the shard of its fragment
abbrev pub ReadsHere : ℕ → Node → Type 0
ReadsHere coll (EnumerateCollection x) = (x.coll ≡ coll) × (x.shard ≡ None)
ReadsHere coll (Index x index equal last ordered) = (x.coll ≡ coll) × (x.shard ≡ None)
ReadsHere coll n = ⊥

-- p and q are the same nodes of a fragment, over `old` and over `new`
pub data SameAbove (old new : Plan) : Plan → Plan → Type 0 where
  none_above : SameAbove old new old new
  one_above : {p q : Plan} {n : Node} → is_above_foot n ≡ true → SameAbove old new p q
      → SameAbove old new (Over p n) (Over q n)
