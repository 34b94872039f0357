use Rattle.std.proofs.Common.{◌≡◌, ◌++◌, map, drop}
use Rattle.aql_value.specs.View.{datums_in}
use Rattle.aql_index.specs.Entries.{entries_from, entries_of}
use Rattle.aql_index.specs.inner.Numbers.{entry_of}
use Rattle.aql_index.proofs.numbers.all_numbers.Given as goal

abbrev pub invariant-loop-place : goal.invariant-loop-place
invariant-loop-place l =
    map entry_of l.all.items ++ entries_from l.place l.names (datums_in (drop l.place l.documents))
    ≡ entries_of l.names (datums_in l.documents)
