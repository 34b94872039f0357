use Rattle.std.proofs.Common.{◌≡◌, ◌++◌, take}
use Rattle.aql_scope.proofs.names.push_all.Given as goal

abbrev pub invariant-loop-entry : goal.invariant-loop-entry
invariant-loop-entry l = l.items.items ≡ l.fn.items.items ++ take l.entry-index l.entries
