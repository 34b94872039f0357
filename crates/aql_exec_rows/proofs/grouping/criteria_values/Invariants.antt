use Rattle.std.proofs.Common.{◌≡◌, ◌++◌, drop}
use Rattle.aql_meaning.specs.Plain.{AllPlain}
use Rattle.aql_meaning.specs.AtRows.{keys_of}
use Rattle.aql_exec_rows.specs.Settings.{criteria_trees}
use Rattle.aql_exec_rows.proofs.grouping.criteria_values.Given as goal

-- with the values of the criteria that are left the values so far are all
abbrev pub invariant-loop-item : goal.invariant-loop-item
invariant-loop-item g l = record {
  plain : AllPlain (criteria_trees (drop l.item-index l.criteria));
  values : l.values ++ keys_of (criteria_trees (drop l.item-index l.criteria)) (g.R.RowView.vars l.row)
      ≡ keys_of (criteria_trees l.criteria) (g.R.RowView.vars l.row);
}
