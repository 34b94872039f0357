use Rattle.std.proofs.Common.{◌≡◌, ◌++◌, true, drop}
use Rattle.std.specs.List.{list_all}
use Rattle.aql_meaning.specs.Visible.{aggregate_vars}
use Rattle.aql_exec_rows.specs.Settings.{is_number, aggregate_trees}
use Rattle.aql_exec_rows.specs.Framed.{numbered}
use Rattle.aql_exec_rows.proofs.frame.aggregate_numbers.Given as goal

abbrev pub invariant-loop-item : goal.invariant-loop-item
invariant-loop-item l = record {
  numbers_left : list_all is_number (aggregate_vars (aggregate_trees (drop l.item-index l.all))) ≡ true;
  numbers_so_far : numbered l.numbers.items ++ aggregate_vars (aggregate_trees (drop l.item-index l.all))
      ≡ aggregate_vars (aggregate_trees l.all);
}
