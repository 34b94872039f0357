-- One variable after another.
use Rattle.std.proofs.Common.{ap, subst, List, map, drop, ◌+◌}
use Rattle.aql_tree.specs.declared.syntax.Ident.{Ident}
use Rattle.aql_tree.specs.declared.syntax.AggregateItem.{AggregateItem}
use Rattle.aql_tree.specs.View.{aggregate_part, aggregates as aggregate_trees}
use Rattle.aql_meaning.specs.Visible.{aggregate_vars}
use Rattle.aql_plan_check.specs.inner.Rows.{AreNumbers}
use Rattle.aql_plan_check.proofs.SameVariables.{adds_next}
use Rattle.aql_plan_check.proofs.Tests.{left}
use Rattle.aql_plan_check.proofs.rows.add_aggregates.Goals as goal

pub loop-aggregate-preserved : goal.loop-aggregate-preserved
loop-aggregate-preserved c =
    let all = c.args.aggregates.now in
    let i = c.loop-aggregate.aggregate-index in
    let e = ap (λ (l : List AggregateItem). aggregate_vars (aggregate_trees (map aggregate_part l)))
    (left all i c.aggregate-item.result c.loop-aggregate-test.true c.aggregate-item.is) in
    record {
      rest = (subst (λ (l : List Ident). AreNumbers l) e c.loop-aggregate.invariant.rest).1;
      done = adds_next c.args.rows.now.keys c.loop-aggregate.rows.keys c.add_aggregate.new.rows.keys
          (aggregate_vars (aggregate_trees (map aggregate_part all)))
          (aggregate_vars (aggregate_trees (map aggregate_part (drop (i + 1) all))))
          (aggregate_vars (aggregate_trees (map aggregate_part (drop i all))))
          (aggregate_part c.aggregate-item.result).0 e
          c.loop-aggregate.invariant.done c.in_ok-add_aggregate.ensures;
    }
