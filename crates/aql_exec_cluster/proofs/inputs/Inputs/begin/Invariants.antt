use Rattle.std.proofs.Common.{◌≡◌, ℕ, ◌<◌, length}
use Rattle.aql_block.specs.declared.calls.Progress.TheVariants.{HasMore}
use Rattle.aql_exec_cluster.specs.Standing.{standing}
use Rattle.aql_exec_cluster.proofs.inputs.Inputs.begin.Given as goal

abbrev pub invariant-loop-input : goal.invariant-loop-input
invariant-loop-input l = record {
  count : length l.self.progress.items ≡ length l.fn.self.progress.items;
  ready : (j : ℕ) → j < l.input → standing l.self.progress.items j ≡ HasMore;
}
