use Rattle.std.proofs.Common.{List, ◌∙◌, ◌∷◌, refl, ap, ap₂, map, sym, get_or}
use Rattle.aql_tree.specs.declared.syntax.Let.{roll-Let}
use Rattle.aql_tree.specs.Tree.{ExprTree}
use Rattle.aql_tree.specs.View.{tree, LetPart, let_part}
use Rattle.aql_tree.specs.laws.Parts.{let_is}
use Rattle.aql_rewrite.specs.inner.NodeViews.{lets_over, after_each}
use Rattle.aql_rewrite.proofs.InPlace.{begun, one_set, all_set, none_left}
use Rattle.aql_rewrite.proofs.exprs.set_groups.Goals as goal

abbrev after : List LetPart → List ExprTree → List ExprTree
after ls = after_each (map (λ l. l.1) ls)

pub loop-group-init : goal.loop-group-init
loop-group-init c =
    begun let_part lets_over after c.args.groups.now c.as_mut_slice-items.result.now (map tree c.args.queue.now.items)
    c.as_mut_slice-items.ensures.value

pub loop-group-preserved : goal.loop-group-preserved
loop-group-preserved c =
    let x = get_or c.loop-group.items c.loop-group.group-index c.group-item.result in
    let y = roll-Let (record { var = x.var; expr = c.set_expr.new.expr }) in
    one_set let_part lets_over after c.args.groups.now c.as_mut_slice-items.result.now
    (map tree c.args.queue.now.items) c.loop-group.group-index c.loop-group.items
    (map tree c.loop-group.queue.items) c.loop-group.invariant c.as_mut_slice-items.ensures.value
    c.group-item.result y (map tree c.set_expr.new.queue.items) c.loop-group-test.true
    (λ more. ap (λ p. lets_over (p ∷ more) (map tree c.loop-group.queue.items)) (let_is x)
    ∙ ap₂ (λ e ps. (x.var, e) ∷ lets_over more ps) (sym c.set_expr.ensures.expr) (sym c.set_expr.ensures.left)
    ∙ ap (λ p. p ∷ lets_over more (map tree c.set_expr.new.queue.items)) (sym (let_is y)))
    (λ more. ap (λ p. after (p ∷ more) (map tree c.loop-group.queue.items)) (let_is x)
    ∙ ap (after more) (sym c.set_expr.ensures.left))

pub returns-clause-exprs : goal.returns-clause-exprs
returns-clause-exprs c =
    all_set let_part lets_over after c.args.groups.now c.as_mut_slice-items.result.now
    (map tree c.args.queue.now.items) c.loop-group.group-index c.loop-group.items
    (map tree c.loop-group.queue.items) c.loop-group.invariant c.as_mut_slice-items.ensures.value
    c.loop-group-test.false refl

pub returns-clause-left : goal.returns-clause-left
returns-clause-left c =
    none_left let_part lets_over after c.args.groups.now c.as_mut_slice-items.result.now
    (map tree c.args.queue.now.items) c.loop-group.group-index c.loop-group.items
    (map tree c.loop-group.queue.items) c.loop-group.invariant c.as_mut_slice-items.ensures.value
    c.loop-group-test.false refl
