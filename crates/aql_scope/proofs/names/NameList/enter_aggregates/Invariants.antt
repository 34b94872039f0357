use Rattle.std.proofs.Common.{◌≡◌, map, drop}
use Rattle.aql_tree.specs.View.{aggregates, aggregate_part}
use Rattle.aql_meaning.specs.Visible.{onto, aggregate_vars}
use Rattle.aql_scope.specs.Numbering.{idents}
use Rattle.aql_scope.proofs.names.NameList.enter_aggregates.Given as goal

abbrev pub invariant-loop-item : goal.invariant-loop-item
invariant-loop-item l =
    onto (aggregate_vars (aggregates (map aggregate_part (drop l.item-index l.all)))) (idents l.self)
    ≡ onto (aggregate_vars (aggregates (map aggregate_part l.all))) (idents l.fn.self)
