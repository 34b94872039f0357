use Rattle.std.proofs.Common.{◌≡◌, ◌+◌, ◌++◌, ◌≤◌, length, true}
use Rattle.aql_value.specs.View.{datums_in}
use Rattle.aql_func.specs.Lists.{add_all}
use Rattle.aql_exec.specs.FirstResults.{unseen}
use Rattle.aql_exec.proofs.distinct.take_new.Given as goal

abbrev pub invariant-loop-value : goal.invariant-loop-value
invariant-loop-value l = record {
  results : datums_in l.out.items ++ unseen (datums_in l.seen.keys) (datums_in l.value-iterator.rest.items)
      ≡ unseen (datums_in l.initial.seen.keys) (datums_in l.fn.values.items);
  seen : add_all true (datums_in l.seen.keys) (datums_in l.value-iterator.rest.items)
      ≡ add_all true (datums_in l.initial.seen.keys) (datums_in l.fn.values.items);
  fewer : length l.out.items + length l.value-iterator.rest.items ≤ length l.fn.values.items;
}
