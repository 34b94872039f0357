use Rattle.std.proofs.Common.{ℕ, ◌<◌, ◌≤◌, length}
use Rattle.aql_exec_cluster.specs.Queues.{left_at}
use Rattle.aql_exec_cluster.proofs.queues.Queues.len.Given as goal

-- a queue that was counted has no row, or the count is more than nothing
abbrev pub invariant-loop-input : goal.invariant-loop-input
invariant-loop-input l =
    (j : ℕ) → j < l.input → 1 ≤ length (left_at l.self.list.items j) → 1 ≤ l.count
