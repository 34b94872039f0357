use Rattle.std.proofs.Common.{◌≡◌, map, drop}
use Rattle.std.specs.List.{AllByRecursion}
use Rattle.aql_tree.specs.View.{aggregate_part, aggregates}
use Rattle.aql_meaning.specs.Numbered.{IsNumber}
use Rattle.aql_meaning.specs.Visible.{aggregate_vars}
use Rattle.aql_rewrite.specs.View.{above_uses}
use Rattle.aql_rules_order.specs.RemoveCollectVariables.{all_used}
use Rattle.aql_rules_order.proofs.remove_collect_variables.all_kept.Given as goal

abbrev pub invariant-loop-item : goal.invariant-loop-item
invariant-loop-item l = record {
  numbers : AllByRecursion IsNumber
      (aggregate_vars (aggregates (map aggregate_part (drop l.item-index l.all))));
  kept : all_used (above_uses l.above)
      (aggregate_vars (aggregates (map aggregate_part (drop l.item-index l.all))))
      ≡ all_used (above_uses l.above) (aggregate_vars (aggregates (map aggregate_part l.all)));
}
