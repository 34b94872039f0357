use Rattle.std.proofs.Common.{◌≡◌, ◌*◌, ◌^◌, false, take}
use Rattle.std.specs.Prelude.{pos, neg_ℤ, ◌≤ℤ◌}
use Rattle.std.specs.List.{list_any}
use Rattle.aql_value.specs.View.{datums_in}
use Rattle.aql_func.specs.Aggregates.{is_bad, exact_sum}
use Rattle.aql_func.proofs.aggregates.sum_of.Given as goal

abbrev pub invariant-loop-value : goal.invariant-loop-value
invariant-loop-value l = record {
  sum : l.total ≡ exact_sum (datums_in (take l.value-index l.values));
  good : list_any is_bad (datums_in (take l.value-index l.values)) ≡ false;
  low : neg_ℤ (pos (2 ^ 63 * l.value-index)) ≤ℤ l.total;
  high : l.total ≤ℤ pos (2 ^ 63 * l.value-index);
}
