-- A Collect.
use Rattle.std.proofs.Common.{◌≡◌, sym, subst, List}
use Rattle.std.specs.Prelude.{MatchOption, option_map}
use Rattle.aql_tree.specs.declared.syntax.Let.{Let}
use Rattle.aql_tree.specs.declared.syntax.AggregateItem.{AggregateItem}
use Rattle.aql_tree.specs.View.{into_part, into_tree}
use Rattle.aql_plan.specs.declared.plan.Node.{Node}
use Rattle.aql_plan.specs.View.{node_tree}
use Rattle.aql_plan_check.specs.inner.Standing.{MayStand, next}
use Rattle.aql_plan_check.specs.inner.View.{collect_of, shape_of}
use Rattle.aql_plan_check.proofs.Collected.{Stood, collected}
use Rattle.aql_plan_check.proofs.standing.node_shape_over.Goals as goal

pub returns-in-Collect : goal.returns-in-Collect
returns-in-Collect c =
    let f = c.args.facts.now in
    let r = c.over_collected.result in
    let t = shape_of c.args.below in
    let i = into_tree (option_map into_part c.in-Collect.into) in
    subst (λ (n : Node). Stood f r (node_tree n) t) (sym c.in-Collect.is)
    (subst (λ (l : List Let). Stood f r (collect_of l c.in-Collect.aggregates i c.in-Collect.stage) t)
    c.as_slice-in-Collect.ensures
    (subst (λ (l : List AggregateItem).
    Stood f r (collect_of c.as_slice-in-Collect.result.now l i c.in-Collect.stage) t)
    c.as_slice-in-Collect-2.ensures
    (collected f r (collect_of c.as_slice-in-Collect.result.now c.as_slice-in-Collect-2.result.now i
    c.in-Collect.stage) t c.over_collected.ensures)))
