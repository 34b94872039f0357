use Rattle.std.proofs.Common.{◌≡◌, ◌++◌, map, drop}
use Rattle.std.specs.Prelude.{filter}
use Rattle.std.specs.List.{AllByRecursion}
use Rattle.aql_tree.specs.View.{AggregatePart, aggregate_part, aggregates}
use Rattle.aql_meaning.specs.Numbered.{IsNumber}
use Rattle.aql_meaning.specs.Visible.{aggregate_vars}
use Rattle.aql_meaning.specs.Uses.{is_used}
use Rattle.aql_rewrite.specs.View.{above_uses}
use Rattle.aql_rules_order.proofs.remove_collect_variables.kept_aggregates.Given as goal

abbrev pub invariant-loop-item : goal.invariant-loop-item
invariant-loop-item l = record {
  numbers : AllByRecursion IsNumber
      (aggregate_vars (aggregates (map aggregate_part (drop l.item-index l.all))));
  kept : map aggregate_part l.out
      ++ filter (λ (a : AggregatePart). is_used a.0 (above_uses l.above))
      (map aggregate_part (drop l.item-index l.all))
      ≡ filter (λ (a : AggregatePart). is_used a.0 (above_uses l.above)) (map aggregate_part l.all);
}
