use Rattle.std.proofs.Common.{◌≡◌, ◌++◌, length}
use Rattle.std.specs.Vec.Iter.{into_iter_items, into_iter_len}
use Rattle.aql_value.specs.View.{datums_in}
use Rattle.aql_exec_rows.proofs.subquery.add_values.Given as goal

-- with the values that are left the results are all
abbrev pub invariant-loop-value : goal.invariant-loop-value
invariant-loop-value l = record {
  results : l.results ++ datums_in (into_iter_items l.value-iterator)
      ≡ l.initial.results ++ datums_in l.fn.values.items;
  count : into_iter_len l.value-iterator ≡ length (into_iter_items l.value-iterator);
}
