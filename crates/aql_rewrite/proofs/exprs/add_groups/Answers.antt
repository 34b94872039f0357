use Rattle.std.proofs.Common.{◌∙◌, [], ◌∷◌, ◌+◌, List, map, drop, refl, ap}
use Rattle.std.proofs.lemmas.List.{map-append}
use Rattle.aql_tree.specs.Tree.{ExprTree}
use Rattle.aql_tree.specs.View.{tree, trees, let_part, LetPart}
use Rattle.aql_tree.specs.declared.syntax.Let.{Let}
use Rattle.aql_tree.specs.laws.Parts.{let_is}
use Rattle.aql_rewrite.specs.Children.{list_children}
use Rattle.aql_rewrite.specs.ExprView.{lent}
use Rattle.aql_rewrite.proofs.Passed.{one_passed, all_passed}
use Rattle.aql_rewrite.proofs.exprs.add_groups.Goals as goal

abbrev rest : List Let → List ExprTree
rest = λ ls. list_children (trees (map (λ l. l.1) (map let_part ls)))

pub loop-group-preserved : goal.loop-group-preserved
loop-group-preserved c =
    let item = c.group-item.result in
    let after = rest (drop (c.loop-group.group-index + 1) c.args.groups.now) in
    one_passed rest c.args.groups.now c.loop-group.group-index item (map lent c.loop-group.to.items) _
    (tree item.expr ∷ []) _ c.loop-group-test.true c.group-item.is
    (ap (λ (p : LetPart). p.1 ∷ after) (let_is item))
    (ap (map lent) c.in_ok-push.ensures.items ∙ map-append lent c.loop-group.to.items _)
    c.loop-group.invariant

pub returns : goal.returns
returns c =
    all_passed rest c.args.groups.now c.loop-group.group-index _ _ c.loop-group-test.false refl
    c.loop-group.invariant
