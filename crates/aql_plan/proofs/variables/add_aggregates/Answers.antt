use Rattle.std.proofs.Common.{ℕ, List, map, refl}
use Rattle.aql_tree.specs.View.{aggregates, aggregate_part}
use Rattle.aql_tree.specs.declared.syntax.AggregateItem.{AggregateItem}
use Rattle.aql_meaning.specs.Visible.{aggregate_vars}
use Rattle.aql_plan.specs.Variables.{number_of, numbers}
use Rattle.aql_plan.proofs.Appended.{one_passed, all_passed}
use Rattle.aql_plan.proofs.variables.add_aggregates.Goals as goal

abbrev rest : List AggregateItem → List ℕ
rest = λ gs. numbers (aggregate_vars (aggregates (map aggregate_part gs)))

pub loop-aggregate-preserved : goal.loop-aggregate-preserved
loop-aggregate-preserved c =
    let item = c.aggregate-item.result in
    let before = c.loop-aggregate.to in
    one_passed rest c.args.aggregates.now c.loop-aggregate.aggregate-index item before _
    (number_of (aggregate_part item).0) _ c.loop-aggregate-test.true c.aggregate-item.is refl
    c.in_ok-add_aggregate.ensures c.loop-aggregate.invariant

pub returns : goal.returns
returns c =
    all_passed rest c.args.aggregates.now c.loop-aggregate.aggregate-index _ _
    c.loop-aggregate-test.false refl c.loop-aggregate.invariant
