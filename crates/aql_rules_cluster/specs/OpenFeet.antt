-- What falls with each application of restrict-to-single-shard, so that its pass ends; no rule's meaning
-- rests on it.
use Rattle.std.specs.Prelude.{ℕ, None}
use Rattle.aql_plan.specs.Plan.{Node, Scatter, Distribute}

-- the feet of fragments that run on all shards
abbrev pub open_foot : Node → ℕ
open_foot (Scatter coll None) = 1
open_foot (Distribute coll es) = 1
open_foot n = 0
