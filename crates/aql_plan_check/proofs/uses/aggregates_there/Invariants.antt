use Rattle.std.proofs.Common.{map, drop}
use Rattle.std.specs.Prelude.{◌↔◌}
use Rattle.aql_tree.specs.View.{aggregates as aggregate_trees, aggregate_part}
use Rattle.aql_meaning.specs.Visible.{aggregate_vars}
use Rattle.aql_plan_check.specs.inner.Findings.{AreAmong}
use Rattle.aql_plan_check.specs.inner.Rows.{variables}
use Rattle.aql_plan_check.proofs.uses.aggregates_there.Given as goal

abbrev pub invariant-loop-aggregate : goal.invariant-loop-aggregate
invariant-loop-aggregate l = AreAmong (variables l.rows.keys) (aggregate_vars (aggregate_trees (map aggregate_part (drop l.aggregate-index l.all))))
    ↔ AreAmong (variables l.rows.keys) (aggregate_vars (aggregate_trees (map aggregate_part l.all)))
