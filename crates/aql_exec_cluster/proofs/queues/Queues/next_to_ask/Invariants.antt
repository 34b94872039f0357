use Rattle.std.proofs.Common.{◌≡◌, ℕ, ◌<◌, []}
use Rattle.aql_block.specs.declared.calls.Progress.TheVariants.{HasMore}
use Rattle.aql_exec_cluster.specs.Standing.{standing}
use Rattle.aql_exec_cluster.specs.Queues.{left_at}
use Rattle.aql_exec_cluster.proofs.queues.Queues.next_to_ask.Given as goal

abbrev pub invariant-loop-input : goal.invariant-loop-input
invariant-loop-input l = (j : ℕ) → j < l.input → standing l.inputs.progress.items j ≡ HasMore
    → left_at l.self.list.items j ≡ [] → ⊥
