use Rattle.std.proofs.Common.{◌++◌, ◌+◌, List, map, drop, refl, ap}
use Rattle.aql_tree.specs.View.{tree, trees, let_part, LetPart}
use Rattle.aql_tree.specs.declared.syntax.Let.{Let}
use Rattle.aql_tree.specs.laws.Parts.{let_is}
use Rattle.aql_meaning.specs.Uses.{Uses, uses, all_uses}
use Rattle.aql_plan.specs.Used.{uses_tree}
use Rattle.aql_plan.proofs.Appended.{one_passed, all_passed}
use Rattle.aql_plan.proofs.node_uses.add_group_uses.Goals as goal

abbrev rest : List Let → Uses
rest = λ ls. all_uses (trees (map (λ l. l.1) (map let_part ls)))

pub loop-group-preserved : goal.loop-group-preserved
loop-group-preserved c =
    let item = c.group-item.result in
    let before = uses_tree c.loop-group.to in
    let after = rest (drop (c.loop-group.group-index + 1) c.args.groups.now) in
    one_passed rest c.args.groups.now c.loop-group.group-index item before _ (uses (tree item.expr)) _
    c.loop-group-test.true c.group-item.is (ap (λ (p : LetPart). uses p.1 ++ after) (let_is item))
    c.in_ok-add_uses.ensures c.loop-group.invariant

pub returns : goal.returns
returns c =
    all_passed rest c.args.groups.now c.loop-group.group-index _ _ c.loop-group-test.false refl
    c.loop-group.invariant
