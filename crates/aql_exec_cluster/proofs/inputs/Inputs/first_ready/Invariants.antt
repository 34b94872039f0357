use Rattle.std.proofs.Common.{◌≡◌, ℕ, ◌<◌}
use Rattle.aql_block.specs.declared.calls.Progress.TheVariants.{HasMore}
use Rattle.aql_exec_cluster.specs.Standing.{standing}
use Rattle.aql_exec_cluster.proofs.inputs.Inputs.first_ready.Given as goal

abbrev pub invariant-loop-input : goal.invariant-loop-input
invariant-loop-input l = (j : ℕ) → j < l.input → standing l.self.progress.items j ≡ HasMore → ⊥
