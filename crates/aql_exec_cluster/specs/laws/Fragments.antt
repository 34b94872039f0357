-- What an operator makes is the same whatever came to its shard, but for the foot of a fragment.
use Rattle.std.specs.Prelude.{ℕ, ◌≡◌, List, [], false}
use Rattle.std.proofs.Common.{true≢false}
use Rattle.aql_meaning.specs.Row.{Row}
use Rattle.aql_plan.specs.Runs.{Dataset}
use Rattle.aql_exec.specs.Rests.{Rest}
use Rattle.aql_exec.specs.Operators.{Operator, StartRow, NoRows, ShardRows, OnRows, WithBody, Remote, Scatter, Gather, Shards, Makes}
use Rattle.aql_exec_cluster.specs.Fragments.{is_foot}

pub makes_over : (o : Operator) (w : Dataset) (came : List Row) (row : Row) (p : ℕ)
    (body : Row → Rest → Type 0) (ins : ℕ → Rest) (r : Rest) → is_foot o ≡ false
    → Makes o w [] row p body ins r → Makes o w came row p body ins r
makes_over StartRow w came row p body ins r e h = h
makes_over NoRows w came row p body ins r e h = h
makes_over ShardRows w came row p body ins r e h = absurd (true≢false e)
makes_over (OnRows n) w came row p body ins r e h = h
makes_over (WithBody x) w came row p body ins r e h = h
makes_over Remote w came row p body ins r e h = h
makes_over (Scatter n shards) w came row p body ins r e h = h
makes_over (Gather n directions es) w came row p body ins r e h = h
makes_over (Shards gather scatter ts) w came row p body ins r e h = h
