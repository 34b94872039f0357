use Rattle.std.proofs.Common.{◌≡◌, ◌++◌, take}
use Rattle.aql_exec_graph.proofs.search.add_all.Given as goal

abbrev pub invariant-loop-register : goal.invariant-loop-register
invariant-loop-register l = l.registers.items ≡ l.fn.registers.items ++ take l.register-index l.others
