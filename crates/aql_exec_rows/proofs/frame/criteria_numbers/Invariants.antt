use Rattle.std.proofs.Common.{◌≡◌, ◌++◌, true, drop}
use Rattle.std.specs.List.{list_all}
use Rattle.aql_exec_rows.specs.Settings.{is_number, criteria_vars}
use Rattle.aql_exec_rows.specs.Framed.{numbered}
use Rattle.aql_exec_rows.proofs.frame.criteria_numbers.Given as goal

abbrev pub invariant-loop-item : goal.invariant-loop-item
invariant-loop-item l = record {
  numbers_left : list_all is_number (criteria_vars (drop l.item-index l.all)) ≡ true;
  numbers_so_far : numbered l.numbers.items ++ criteria_vars (drop l.item-index l.all) ≡ criteria_vars l.all;
}
