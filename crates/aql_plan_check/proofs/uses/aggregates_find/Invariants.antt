use Rattle.std.proofs.Common.{map, drop}
use Rattle.std.specs.Prelude.{◌↔◌}
use Rattle.aql_tree.specs.View.{aggregates as aggregate_trees, aggregate_part}
use Rattle.aql_plan_check.specs.inner.Findings.{AggregatesFind}
use Rattle.aql_plan_check.specs.inner.Rows.{variables}
use Rattle.aql_plan_check.proofs.uses.aggregates_find.Given as goal

abbrev pub invariant-loop-aggregate : goal.invariant-loop-aggregate
invariant-loop-aggregate l = AggregatesFind (variables l.rows.keys) (aggregate_trees (map aggregate_part (drop l.aggregate-index l.all)))
    ↔ AggregatesFind (variables l.rows.keys) (aggregate_trees (map aggregate_part l.all))
