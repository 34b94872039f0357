use Rattle.std.proofs.Common.{◌++◌, ◌+◌, List, map, option_map, drop, refl, ap}
use Rattle.aql_tree.specs.Tree.{ExprTree}
use Rattle.aql_tree.specs.View.{tree, maybe, aggregate_part, AggregatePart, aggregates}
use Rattle.aql_tree.specs.declared.syntax.AggregateItem.{AggregateItem}
use Rattle.aql_tree.specs.laws.Parts.{aggregate_is}
use Rattle.aql_rewrite.specs.Children.{maybe_children}
use Rattle.aql_rewrite.specs.NodeExprs.{aggregate_exprs}
use Rattle.aql_rewrite.specs.ExprView.{lent}
use Rattle.aql_rewrite.proofs.Passed.{one_passed, all_passed}
use Rattle.aql_rewrite.proofs.exprs.add_aggregates.Goals as goal

abbrev rest : List AggregateItem → List ExprTree
rest = λ gs. aggregate_exprs (aggregates (map aggregate_part gs))

pub loop-aggregate-preserved : goal.loop-aggregate-preserved
loop-aggregate-preserved c =
    let item = c.aggregate-item.result in
    let after = rest (drop (c.loop-aggregate.aggregate-index + 1) c.args.all.now) in
    one_passed rest c.args.all.now c.loop-aggregate.aggregate-index item
    (map lent c.loop-aggregate.to.items) _ (maybe_children (maybe (option_map tree item.arg))) _
    c.loop-aggregate-test.true c.aggregate-item.is
    (ap (λ (p : AggregatePart). maybe_children (maybe p.2) ++ after) (aggregate_is item))
    c.in_ok-add_maybe.ensures c.loop-aggregate.invariant

pub returns : goal.returns
returns c =
    all_passed rest c.args.all.now c.loop-aggregate.aggregate-index _ _ c.loop-aggregate-test.false refl
    c.loop-aggregate.invariant
