use Rattle.std.proofs.Common.{◌∙◌, ◌∷◌, refl, ap, ap₂, map, sym, get_or}
use Rattle.aql_tree.specs.declared.syntax.AggregateItem.{roll-AggregateItem}
use Rattle.aql_tree.specs.View.{tree, aggregate_part}
use Rattle.aql_tree.specs.laws.Parts.{aggregate_is}
use Rattle.aql_rewrite.specs.inner.NodeViews.{aggregates_over, after_each_aggregate}
use Rattle.aql_rewrite.proofs.InPlace.{begun, one_set, all_set, none_left}
use Rattle.aql_rewrite.proofs.exprs.set_aggregates.Goals as goal

pub loop-aggregate-init : goal.loop-aggregate-init
loop-aggregate-init c =
    begun aggregate_part aggregates_over after_each_aggregate c.args.aggregates.now c.as_mut_slice-items.result.now (map tree c.args.queue.now.items)
    c.as_mut_slice-items.ensures.value

pub loop-aggregate-preserved : goal.loop-aggregate-preserved
loop-aggregate-preserved c =
    let x = get_or c.loop-aggregate.items c.loop-aggregate.aggregate-index c.aggregate-item.result in
    let y = roll-AggregateItem (record { var = x.var; name = x.name; arg = c.set_maybe.new.expr }) in
    one_set aggregate_part aggregates_over after_each_aggregate c.args.aggregates.now c.as_mut_slice-items.result.now
    (map tree c.args.queue.now.items) c.loop-aggregate.aggregate-index c.loop-aggregate.items
    (map tree c.loop-aggregate.queue.items) c.loop-aggregate.invariant c.as_mut_slice-items.ensures.value
    c.aggregate-item.result y (map tree c.set_maybe.new.queue.items) c.loop-aggregate-test.true
    (λ more. ap (λ p. aggregates_over (p ∷ more) (map tree c.loop-aggregate.queue.items)) (aggregate_is x)
    ∙ ap₂ (λ e ps. (x.var, x.name, e) ∷ aggregates_over more ps) (sym c.set_maybe.ensures.expr) (sym c.set_maybe.ensures.left)
    ∙ ap (λ p. p ∷ aggregates_over more (map tree c.set_maybe.new.queue.items)) (sym (aggregate_is y)))
    (λ more. ap (λ p. after_each_aggregate (p ∷ more) (map tree c.loop-aggregate.queue.items)) (aggregate_is x)
    ∙ ap (after_each_aggregate more) (sym c.set_maybe.ensures.left))

pub returns-clause-exprs : goal.returns-clause-exprs
returns-clause-exprs c =
    all_set aggregate_part aggregates_over after_each_aggregate c.args.aggregates.now c.as_mut_slice-items.result.now
    (map tree c.args.queue.now.items) c.loop-aggregate.aggregate-index c.loop-aggregate.items
    (map tree c.loop-aggregate.queue.items) c.loop-aggregate.invariant c.as_mut_slice-items.ensures.value
    c.loop-aggregate-test.false refl

pub returns-clause-left : goal.returns-clause-left
returns-clause-left c =
    none_left aggregate_part aggregates_over after_each_aggregate c.args.aggregates.now c.as_mut_slice-items.result.now
    (map tree c.args.queue.now.items) c.loop-aggregate.aggregate-index c.loop-aggregate.items
    (map tree c.loop-aggregate.queue.items) c.loop-aggregate.invariant c.as_mut_slice-items.ensures.value
    c.loop-aggregate-test.false refl
