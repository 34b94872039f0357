use Rattle.std.proofs.Common.{◌∙◌, ◌∷◌, refl, ap, ap₂, map, sym}
use Rattle.aql_tree.specs.View.{tree}
use Rattle.aql_rewrite.specs.ExprView.{each_over}
use Rattle.aql_rewrite.specs.inner.NodeViews.{after_each}
use Rattle.aql_rewrite.proofs.InPlace.{begun, one_set, all_set, none_left}
use Rattle.aql_rewrite.proofs.exprs.set_list.Goals as goal

pub loop-expr-init : goal.loop-expr-init
loop-expr-init c =
    begun tree each_over after_each c.args.list.now c.as_mut_slice-items.result.now (map tree c.args.queue.now.items)
    c.as_mut_slice-items.ensures.value

pub loop-expr-preserved : goal.loop-expr-preserved
loop-expr-preserved c =
    one_set tree each_over after_each c.args.list.now c.as_mut_slice-items.result.now
    (map tree c.args.queue.now.items) c.loop-expr.expr-index c.loop-expr.items
    (map tree c.loop-expr.queue.items) c.loop-expr.invariant c.as_mut_slice-items.ensures.value
    c.expr-item.result c.set_expr.new.expr (map tree c.set_expr.new.queue.items) c.loop-expr-test.true
    (λ more. ap₂ (λ e ps. e ∷ each_over more ps) (sym c.set_expr.ensures.expr) (sym c.set_expr.ensures.left))
    (λ more. ap (after_each more) (sym c.set_expr.ensures.left))

pub returns-clause-exprs : goal.returns-clause-exprs
returns-clause-exprs c =
    all_set tree each_over after_each c.args.list.now c.as_mut_slice-items.result.now
    (map tree c.args.queue.now.items) c.loop-expr.expr-index c.loop-expr.items
    (map tree c.loop-expr.queue.items) c.loop-expr.invariant c.as_mut_slice-items.ensures.value
    c.loop-expr-test.false refl

pub returns-clause-left : goal.returns-clause-left
returns-clause-left c =
    none_left tree each_over after_each c.args.list.now c.as_mut_slice-items.result.now
    (map tree c.args.queue.now.items) c.loop-expr.expr-index c.loop-expr.items
    (map tree c.loop-expr.queue.items) c.loop-expr.invariant c.as_mut_slice-items.ensures.value
    c.loop-expr-test.false refl
