use Rattle.std.proofs.Common.{◌≡◌, ℕ, ◌<◌, [], true}
use Rattle.aql_exec_cluster.specs.Standing.{standing, is_done}
use Rattle.aql_exec_cluster.specs.Queues.{left_at}
use Rattle.aql_exec_cluster.proofs.queues.Queues.are_ready.Given as goal

abbrev pub invariant-loop-input : goal.invariant-loop-input
invariant-loop-input l = (j : ℕ) → j < l.input → left_at l.self.list.items j ≡ []
    → is_done (standing l.inputs.progress.items j) ≡ true
