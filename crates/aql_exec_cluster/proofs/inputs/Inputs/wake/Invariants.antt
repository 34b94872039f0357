use Rattle.std.proofs.Common.{◌≡◌, ◌++◌, map, take, drop}
use Rattle.aql_exec_cluster.specs.Standing.{after_answer}
use Rattle.aql_exec_cluster.proofs.inputs.Inputs.wake.Given as goal

abbrev pub invariant-loop-input : goal.invariant-loop-input
invariant-loop-input l = l.self.progress.items
    ≡ map after_answer (take l.input l.fn.self.progress.items) ++ drop l.input l.fn.self.progress.items
