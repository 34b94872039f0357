use Rattle.std.proofs.Common.{◌≡◌, length}
use Rattle.aql_exec_cluster.proofs.inputs.Inputs.new.Given as goal

abbrev pub invariant-loop-input : goal.invariant-loop-input
invariant-loop-input l = length l.progress.items ≡ l._input
