-- One aggregate after another.
use Rattle.std.proofs.Common.{List, map, subst}
use Rattle.std.specs.Prelude.{◌↔◌}
use Rattle.aql_tree.specs.declared.syntax.AggregateItem.{AggregateItem}
use Rattle.aql_tree.specs.View.{aggregate_part, aggregates as aggregate_trees}
use Rattle.aql_plan.specs.Fits.{AllKnown}
use Rattle.aql_plan_check.proofs.ShapeTests.{next, stop}
use Rattle.aql_plan_check.proofs.Tests.{left}
use Rattle.aql_plan_check.proofs.aggregates.all_known.Goals as goal

pub returns-then-not-is_known : goal.returns-then-not-is_known
returns-then-not-is_known c = stop c.is_known.result
    (subst (λ (l : List AggregateItem). AllKnown (aggregate_trees (map aggregate_part l))
    ↔ AllKnown (aggregate_trees (map aggregate_part c.args.all.now)))
    (left c.args.all.now c.loop-aggregate.aggregate-index c.aggregate-item.result c.loop-aggregate-test.true
    c.aggregate-item.is) c.loop-aggregate.invariant) c.is_known.ensures c.if-not-is_known.true

pub loop-aggregate-preserved : goal.loop-aggregate-preserved
loop-aggregate-preserved c = next
    (subst (λ (l : List AggregateItem). AllKnown (aggregate_trees (map aggregate_part l))
    ↔ AllKnown (aggregate_trees (map aggregate_part c.args.all.now)))
    (left c.args.all.now c.loop-aggregate.aggregate-index c.aggregate-item.result c.loop-aggregate-test.true
    c.aggregate-item.is) c.loop-aggregate.invariant) (c.is_known.ensures.0 c.if-not-is_known.false)
