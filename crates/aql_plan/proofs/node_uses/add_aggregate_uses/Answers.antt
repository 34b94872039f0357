use Rattle.std.proofs.Common.{◌++◌, ◌+◌, List, map, option_map, drop, refl, ap}
use Rattle.aql_tree.specs.View.{tree, maybe, aggregates, aggregate_part, AggregatePart}
use Rattle.aql_tree.specs.declared.syntax.AggregateItem.{AggregateItem}
use Rattle.aql_tree.specs.laws.Parts.{aggregate_is}
use Rattle.aql_meaning.specs.Uses.{Uses, maybe_uses, aggregate_uses}
use Rattle.aql_plan.specs.Used.{uses_tree}
use Rattle.aql_plan.proofs.Appended.{one_passed, all_passed}
use Rattle.aql_plan.proofs.node_uses.add_aggregate_uses.Goals as goal

abbrev rest : List AggregateItem → Uses
rest = λ gs. aggregate_uses (aggregates (map aggregate_part gs))

pub loop-aggregate-preserved : goal.loop-aggregate-preserved
loop-aggregate-preserved c =
    let item = c.aggregate-item.result in
    let before = uses_tree c.loop-aggregate.to in
    let after = rest (drop (c.loop-aggregate.aggregate-index + 1) c.args.all.now) in
    one_passed rest c.args.all.now c.loop-aggregate.aggregate-index item before _
    (maybe_uses (maybe (option_map tree item.arg))) _ c.loop-aggregate-test.true c.aggregate-item.is
    (ap (λ (p : AggregatePart). maybe_uses (maybe p.2) ++ after) (aggregate_is item))
    c.in_ok-add_maybe_uses.ensures c.loop-aggregate.invariant

pub returns : goal.returns
returns c =
    all_passed rest c.args.all.now c.loop-aggregate.aggregate-index _ _ c.loop-aggregate-test.false refl
    c.loop-aggregate.invariant
