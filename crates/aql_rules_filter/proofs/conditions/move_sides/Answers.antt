use Rattle.std.proofs.Common.{◌∙◌, ◌<◌, ◌≤◌, ◌++◌, length, get_or, map, ap, sym, subst}
use Rattle.std.proofs.lemmas.List.{take_all}
use Rattle.aql_value.specs.declared.operators.BinOp.TheVariants.{And}
use Rattle.aql_tree.specs.View.{tree, link_part, LinkPart}
use Rattle.aql_rules_filter.specs.Readers.{and_link}
use Rattle.aql_tree.specs.laws.Parts.{link_is}
use Rattle.aql_rules_filter.proofs.Moved.{anded, sides_anded, one_further, one_moved}
use Rattle.aql_rules_filter.proofs.conditions.move_sides.Goals as goal

pub loop-link-preserved : goal.loop-link-preserved
loop-link-preserved c =
    let all = c.args.from.now in
    let i = c.loop-link.link-index in
    let xs = c.loop-link.items in
    let d = c.link-item.result in
    let ahead = c.loop-link.invariant.1 in (
      one_moved all i xs ahead c.args.to.now c.loop-link.to c.push.new.self d c.new.result
          (subst (λ ys. i < length ys) c.as_mut_slice-items.ensures.value c.loop-link-test.true)
          c.loop-link.invariant.0
          (c.new.ensures ∙ ap (λ e. (And, tree e)) c.replace-side.ensures.value
          ∙ ap and_link (sym (ap (λ (l : LinkPart). l.1) (link_is (get_or xs i d)))))
          c.in_ok-push.ensures.ok,
      one_further all i xs ahead _,
    )

pub returns : goal.returns
returns c =
    let all = c.args.from.now in
    let i = c.loop-link.link-index in
    let past = subst (λ ys. length ys ≤ i) c.as_mut_slice-items.ensures.value c.loop-link-test.false in
    c.loop-link.invariant.0
    ∙ ap (λ ls. map link_part c.args.to.now ++ ls) (ap (map anded) (take_all i all past) ∙ sides_anded all)
