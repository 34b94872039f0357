use Rattle.std.proofs.Common.{◌≡◌, ◌++◌, map, drop}
use Rattle.aql_meaning.specs.Row.{value_at}
use Rattle.aql_exec_rows.specs.Settings.{criteria_vars}
use Rattle.aql_exec_rows.proofs.grouping.criteria_in_row.Given as goal

-- with what stands under the variables that are left the values so far are all
abbrev pub invariant-loop-item : goal.invariant-loop-item
invariant-loop-item g l =
    l.values ++ map (value_at (g.R.RowView.vars l.row)) (criteria_vars (drop l.item-index l.criteria))
    ≡ map (value_at (g.R.RowView.vars l.row)) (criteria_vars l.criteria)
