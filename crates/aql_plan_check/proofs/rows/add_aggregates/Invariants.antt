use Rattle.std.proofs.Common.{map, drop}
use Rattle.aql_tree.specs.View.{aggregates as aggregate_trees, aggregate_part}
use Rattle.aql_meaning.specs.Visible.{aggregate_vars}
use Rattle.aql_plan_check.specs.inner.Rows.{AreNumbers}
use Rattle.aql_plan_check.proofs.SameVariables.{AddsLeft}
use Rattle.aql_plan_check.proofs.rows.add_aggregates.Given as goal

abbrev pub invariant-loop-aggregate : goal.invariant-loop-aggregate
invariant-loop-aggregate l = record {
  rest : AreNumbers (aggregate_vars (aggregate_trees (map aggregate_part (drop l.aggregate-index l.aggregates))));
  done : AddsLeft l.initial.rows.keys (aggregate_vars (aggregate_trees (map aggregate_part l.aggregates)))
      l.rows.keys (aggregate_vars (aggregate_trees (map aggregate_part (drop l.aggregate-index l.aggregates))));
}
