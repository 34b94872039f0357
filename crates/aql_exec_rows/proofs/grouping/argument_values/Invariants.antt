use Rattle.std.proofs.Common.{◌≡◌, ◌++◌, drop}
use Rattle.aql_value.specs.View.{datums_in}
use Rattle.aql_meaning.specs.Stages.{arguments_at}
use Rattle.aql_plan.specs.Fits.{AllKnown}
use Rattle.aql_exec_rows.specs.Settings.{aggregate_trees}
use Rattle.aql_exec_rows.proofs.grouping.argument_values.Given as goal

-- with the arguments that are left the arguments so far are all
abbrev pub invariant-loop-item : goal.invariant-loop-item
invariant-loop-item g l = record {
  known : AllKnown (aggregate_trees (drop l.item-index l.aggregates));
  values : datums_in l.values.items
      ++ arguments_at (aggregate_trees (drop l.item-index l.aggregates)) (g.R.RowView.vars l.row)
      ≡ arguments_at (aggregate_trees l.aggregates) (g.R.RowView.vars l.row);
}
