use Rattle.std.proofs.Common.{◌≡◌, ◌++◌, map, drop}
use Rattle.aql_value.specs.View.{datums_in}
use Rattle.aql_meaning.specs.Row.{value_at}
use Rattle.aql_meaning.specs.Visible.{aggregate_vars}
use Rattle.aql_exec_rows.specs.Settings.{aggregate_trees}
use Rattle.aql_exec_rows.proofs.grouping.arguments_in_row.Given as goal

-- with what stands under the variables that are left the values so far are all
abbrev pub invariant-loop-item : goal.invariant-loop-item
invariant-loop-item g l = datums_in l.values.items
    ++ map (value_at (g.R.RowView.vars l.row)) (aggregate_vars (aggregate_trees (drop l.item-index l.aggregates)))
    ≡ map (value_at (g.R.RowView.vars l.row)) (aggregate_vars (aggregate_trees l.aggregates))
