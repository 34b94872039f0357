use Rattle.std.proofs.Common.{◌++◌, ◌+◌, List, map, drop, refl, ap}
use Rattle.aql_tree.specs.View.{tree, trees, key_part, KeyPart}
use Rattle.aql_tree.specs.declared.syntax.Key.{Key}
use Rattle.aql_tree.specs.laws.Parts.{key_is}
use Rattle.aql_meaning.specs.Uses.{Uses, uses, all_uses}
use Rattle.aql_plan.specs.Used.{uses_tree}
use Rattle.aql_plan.proofs.Appended.{one_passed, all_passed}
use Rattle.aql_plan.proofs.node_uses.add_key_uses.Goals as goal

abbrev rest : List Key → Uses
rest = λ ks. all_uses (trees (map (λ k. k.0) (map key_part ks)))

pub loop-key-preserved : goal.loop-key-preserved
loop-key-preserved c =
    let item = c.key-item.result in
    let before = uses_tree c.loop-key.to in
    let after = rest (drop (c.loop-key.key-index + 1) c.args.keys.now) in
    one_passed rest c.args.keys.now c.loop-key.key-index item before _ (uses (tree item.expr)) _
    c.loop-key-test.true c.key-item.is (ap (λ (p : KeyPart). uses p.0 ++ after) (key_is item))
    c.in_ok-add_uses.ensures c.loop-key.invariant

pub returns : goal.returns
returns c =
    all_passed rest c.args.keys.now c.loop-key.key-index _ _ c.loop-key-test.false refl
    c.loop-key.invariant
