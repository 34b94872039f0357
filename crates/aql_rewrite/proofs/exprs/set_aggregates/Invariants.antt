use Rattle.aql_tree.specs.View.{tree, aggregate_part}
use Rattle.std.proofs.Common.{map}
use Rattle.aql_rewrite.specs.inner.NodeViews.{aggregates_over, after_each_aggregate}
use Rattle.aql_rewrite.proofs.InPlace.{Goes}
use Rattle.aql_rewrite.proofs.exprs.set_aggregates.Given as goal

abbrev pub invariant-loop-aggregate : goal.invariant-loop-aggregate
invariant-loop-aggregate l = Goes aggregate_part aggregates_over after_each_aggregate l.fn.aggregates (map tree l.fn.queue.items)
    l.aggregate-index l.items (map tree l.queue.items)
