use Rattle.std.proofs.Common.{◌∙◌, [], ◌∷◌, ◌+◌, List, map, drop, refl, ap}
use Rattle.std.proofs.lemmas.List.{map-append}
use Rattle.aql_tree.specs.Tree.{ExprTree}
use Rattle.aql_tree.specs.View.{tree, link_part, LinkPart, links}
use Rattle.aql_tree.specs.declared.syntax.Link.{Link}
use Rattle.aql_tree.specs.laws.Parts.{link_is}
use Rattle.aql_rewrite.specs.Children.{link_children}
use Rattle.aql_rewrite.specs.ExprView.{lent}
use Rattle.aql_rewrite.proofs.Passed.{one_passed, all_passed}
use Rattle.aql_rewrite.proofs.looking.add_links.Goals as goal

abbrev rest : List Link → List ExprTree
rest = λ ls. link_children (links (map link_part ls))

pub loop-link-preserved : goal.loop-link-preserved
loop-link-preserved c =
    let item = c.link-item.result in
    let after = rest (drop (c.loop-link.link-index + 1) c.args.all.now) in
    one_passed rest c.args.all.now c.loop-link.link-index item (map lent c.loop-link.to.items) _
    (tree item.right ∷ []) _ c.loop-link-test.true c.link-item.is
    (ap (λ (p : LinkPart). p.1 ∷ after) (link_is item))
    (ap (map lent) c.in_ok-push.ensures.items ∙ map-append lent c.loop-link.to.items _) c.loop-link.invariant

pub returns : goal.returns
returns c =
    all_passed rest c.args.all.now c.loop-link.link-index _ _ c.loop-link-test.false refl
    c.loop-link.invariant
