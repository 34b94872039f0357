use Rattle.std.proofs.Common.{map, drop}
use Rattle.std.specs.Prelude.{◌↔◌}
use Rattle.aql_tree.specs.View.{aggregate_part, aggregates as aggregate_trees}
use Rattle.aql_plan.specs.Fits.{AllKnown}
use Rattle.aql_plan_check.proofs.aggregates.all_known.Given as goal

abbrev pub invariant-loop-aggregate : goal.invariant-loop-aggregate
invariant-loop-aggregate l = AllKnown (aggregate_trees (map aggregate_part (drop l.aggregate-index l.all)))
    ↔ AllKnown (aggregate_trees (map aggregate_part l.all))
