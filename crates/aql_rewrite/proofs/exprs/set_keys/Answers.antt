use Rattle.std.proofs.Common.{List, ◌∙◌, ◌∷◌, refl, ap, ap₂, map, sym, get_or}
use Rattle.aql_tree.specs.declared.syntax.Key.{roll-Key}
use Rattle.aql_tree.specs.Tree.{ExprTree}
use Rattle.aql_tree.specs.View.{tree, KeyPart, key_part}
use Rattle.aql_tree.specs.laws.Parts.{key_is}
use Rattle.aql_rewrite.specs.inner.NodeViews.{keys_over, after_each}
use Rattle.aql_rewrite.proofs.InPlace.{begun, one_set, all_set}
use Rattle.aql_rewrite.proofs.exprs.set_keys.Goals as goal

abbrev after : List KeyPart → List ExprTree → List ExprTree
after ks = after_each (map (λ k. k.0) ks)

pub loop-key-init : goal.loop-key-init
loop-key-init c =
    begun key_part keys_over after c.args.keys.now c.as_mut_slice-items.result.now (map tree c.args.queue.now.items)
    c.as_mut_slice-items.ensures.value

pub loop-key-preserved : goal.loop-key-preserved
loop-key-preserved c =
    let x = get_or c.loop-key.items c.loop-key.key-index c.key-item.result in
    let y = roll-Key (record { expr = c.set_expr.new.expr; descending = x.descending }) in
    one_set key_part keys_over after c.args.keys.now c.as_mut_slice-items.result.now
    (map tree c.args.queue.now.items) c.loop-key.key-index c.loop-key.items
    (map tree c.loop-key.queue.items) c.loop-key.invariant c.as_mut_slice-items.ensures.value
    c.key-item.result y (map tree c.set_expr.new.queue.items) c.loop-key-test.true
    (λ more. ap (λ p. keys_over (p ∷ more) (map tree c.loop-key.queue.items)) (key_is x)
    ∙ ap₂ (λ e ps. (e, x.descending) ∷ keys_over more ps) (sym c.set_expr.ensures.expr) (sym c.set_expr.ensures.left)
    ∙ ap (λ p. p ∷ keys_over more (map tree c.set_expr.new.queue.items)) (sym (key_is y)))
    (λ more. ap (λ p. after (p ∷ more) (map tree c.loop-key.queue.items)) (key_is x)
    ∙ ap (after more) (sym c.set_expr.ensures.left))

pub returns : goal.returns
returns c =
    all_set key_part keys_over after c.args.keys.now c.as_mut_slice-items.result.now
    (map tree c.args.queue.now.items) c.loop-key.key-index c.loop-key.items
    (map tree c.loop-key.queue.items) c.loop-key.invariant c.as_mut_slice-items.ensures.value
    c.loop-key-test.false refl
