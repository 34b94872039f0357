use Rattle.std.proofs.Common.{◌≡◌, map, take}
use Rattle.aql_index.specs.inner.Numbers.{entry_of}
use Rattle.aql_index.proofs.numbers.entries_from.Given as goal

abbrev pub invariant-loop-numbers : goal.invariant-loop-numbers
invariant-loop-numbers l = l.entries.items ≡ map entry_of (take l.numbers-index l.all)
