-- Operators in a fragment: only the foot reads what came to its shard.
use Rattle.std.specs.Prelude.{Bool, true, false}
use Rattle.aql_exec.specs.Operators.{Operator, ShardRows}

-- it stands for the rows that came to a shard
abbrev pub is_foot : Operator → Bool
is_foot ShardRows = true
is_foot o = false
