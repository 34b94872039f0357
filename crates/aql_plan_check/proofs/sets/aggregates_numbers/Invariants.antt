use Rattle.std.proofs.Common.{drop, map}
use Rattle.std.specs.Prelude.{◌↔◌}
use Rattle.std.specs.List.{AllByRecursion}
use Rattle.aql_tree.specs.View.{aggregates as aggregate_trees, aggregate_part}
use Rattle.aql_meaning.specs.Numbered.{IsNumber}
use Rattle.aql_meaning.specs.Visible.{aggregate_vars}
use Rattle.aql_plan_check.proofs.sets.aggregates_numbers.Given as goal

abbrev pub invariant-loop-aggregate : goal.invariant-loop-aggregate
invariant-loop-aggregate l =
    AllByRecursion IsNumber (aggregate_vars (aggregate_trees (map aggregate_part (drop l.aggregate-index l.all))))
    ↔ AllByRecursion IsNumber (aggregate_vars (aggregate_trees (map aggregate_part l.all)))
