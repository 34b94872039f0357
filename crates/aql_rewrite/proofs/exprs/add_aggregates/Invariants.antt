use Rattle.std.proofs.Common.{◌≡◌, ◌++◌, map, drop}
use Rattle.aql_tree.specs.View.{aggregates, aggregate_part}
use Rattle.aql_rewrite.specs.ExprView.{lent}
use Rattle.aql_rewrite.specs.NodeExprs.{aggregate_exprs}
use Rattle.aql_rewrite.proofs.exprs.add_aggregates.Given as goal

abbrev pub invariant-loop-aggregate : goal.invariant-loop-aggregate
invariant-loop-aggregate l = map lent l.to.items
    ++ aggregate_exprs (aggregates (map aggregate_part (drop l.aggregate-index l.all)))
    ≡ map lent l.initial.to.items ++ aggregate_exprs (aggregates (map aggregate_part l.all))
