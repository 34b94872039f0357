use Rattle.std.proofs.Common.{◌∙◌, ◌∷◌, [], ◌++◌, ◌+◌, List, map, drop, refl, ap}
use Rattle.std.proofs.lemmas.List.{map-append}
use Rattle.aql_tree.specs.View.{let_part, LetPart}
use Rattle.aql_tree.specs.declared.syntax.Let.{Let}
use Rattle.aql_tree.specs.laws.Parts.{let_is}
use Rattle.aql_meaning.specs.Uses.{Uses, Whole}
use Rattle.aql_plan.specs.Needs.{as_wholes}
use Rattle.aql_plan.specs.Used.{use_tree, uses_tree}
use Rattle.aql_plan.proofs.Appended.{one_passed, all_passed}
use Rattle.aql_plan.proofs.node_uses.add_groups_whole.Goals as goal

abbrev rest : List Let → Uses
rest = λ ls. as_wholes (map (λ l. l.0) (map let_part ls))

pub loop-group-preserved : goal.loop-group-preserved
loop-group-preserved c =
    let item = c.group-item.result in
    let before = uses_tree c.loop-group.to in
    let after = rest (drop (c.loop-group.group-index + 1) c.args.groups.now) in
    one_passed rest c.args.groups.now c.loop-group.group-index item before _ (Whole item.var ∷ []) _
    c.loop-group-test.true c.group-item.is (ap (λ (p : LetPart). Whole p.0 ∷ after) (let_is item))
    (ap uses_tree c.in_ok-push.ensures.ok ∙ map-append use_tree c.loop-group.to _
    ∙ ap (λ x. before ++ Whole x ∷ []) c.in_ok-copy_ident.ensures)
    c.loop-group.invariant

pub returns : goal.returns
returns c =
    all_passed rest c.args.groups.now c.loop-group.group-index _ _ c.loop-group-test.false refl
    c.loop-group.invariant
