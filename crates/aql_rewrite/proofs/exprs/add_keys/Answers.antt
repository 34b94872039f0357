use Rattle.std.proofs.Common.{◌∙◌, [], ◌∷◌, ◌+◌, List, map, drop, refl, ap}
use Rattle.std.proofs.lemmas.List.{map-append}
use Rattle.aql_tree.specs.Tree.{ExprTree}
use Rattle.aql_tree.specs.View.{tree, trees, key_part, KeyPart}
use Rattle.aql_tree.specs.declared.syntax.Key.{Key}
use Rattle.aql_tree.specs.laws.Parts.{key_is}
use Rattle.aql_rewrite.specs.Children.{list_children}
use Rattle.aql_rewrite.specs.ExprView.{lent}
use Rattle.aql_rewrite.proofs.Passed.{one_passed, all_passed}
use Rattle.aql_rewrite.proofs.exprs.add_keys.Goals as goal

abbrev rest : List Key → List ExprTree
rest = λ ks. list_children (trees (map (λ k. k.0) (map key_part ks)))

pub loop-key-preserved : goal.loop-key-preserved
loop-key-preserved c =
    let item = c.key-item.result in
    let after = rest (drop (c.loop-key.key-index + 1) c.args.keys.now) in
    one_passed rest c.args.keys.now c.loop-key.key-index item (map lent c.loop-key.to.items) _
    (tree item.expr ∷ []) _ c.loop-key-test.true c.key-item.is
    (ap (λ (p : KeyPart). p.0 ∷ after) (key_is item))
    (ap (map lent) c.in_ok-push.ensures.items ∙ map-append lent c.loop-key.to.items _) c.loop-key.invariant

pub returns : goal.returns
returns c =
    all_passed rest c.args.keys.now c.loop-key.key-index _ _ c.loop-key-test.false refl
    c.loop-key.invariant
