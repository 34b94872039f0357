use Rattle.std.proofs.Common.{◌≡◌, ◌∙◌, length, map, ap, arith}
use Rattle.std.proofs.lemmas.List.{take_all}
use Rattle.aql_tree.specs.Tree.{ExprTree, chain}
use Rattle.aql_tree.specs.View.{tree, links, link_part}
use Rattle.aql_rewrite.specs.ExprView.{lent}
use Rattle.aql_rules_filter.specs.Readers.{and_link}
use Rattle.aql_rules_index.proofs.PartsLeft.{all_linked}
use Rattle.aql_rules_index.proofs.remove_filter_covered_by_index.condition_of.Goals as goal

pub returns : goal.returns
returns c =
    let more = c.args.more.now in
    let made = map link_part c.loop-part.rest in
    let some : length more ≡ 0 → ⊥ = λ h. omega (arith, h, c.if-more-eq0.false) in
    c.in_ok-cond.ensures ∙ ap (λ (e : ExprTree). chain e (links made)) c.in_ok-first.ensures
    ∙ all_linked (tree c.args.first.now) more made some
    (c.loop-part.invariant
    ∙ ap (map (λ p. and_link (lent p))) (take_all c.loop-part.part-index more c.loop-part-test.false))
