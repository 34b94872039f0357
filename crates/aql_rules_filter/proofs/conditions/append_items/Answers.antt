use Rattle.std.proofs.Common.{◌≡◌, ◌∙◌, [], ◌∷◌, ◌++◌, true, false, map, ap, sym, subst, arith, rules}
use Rattle.std.proofs.lemmas.Grind.{common_steps}
use Rattle.aql_tree.specs.declared.syntax.Expr.{the_lemmas}
use Rattle.aql_tree.specs.Tree.{chain}
use Rattle.aql_tree.specs.View.{tree, links, link_part}
use Rattle.aql_plan.specs.FirstPlan.{all_and, conjuncts}
use Rattle.aql_rules_filter.specs.Readers.{and_link}
use Rattle.aql_rules_filter.proofs.Joining.{chain_form, one_part, other_chain, chain_joined, one_joined}
use Rattle.aql_rules_filter.proofs.conditions.append_items.Goals as goal
use Rattle.aql_rules_filter.proofs.conditions.append_items.Goals.{in_default-via-in-Chain+else-is_all_and, in_default-via-in_default}

pub returns-in_ok-move_items-in-Chain : goal.returns-in_ok-move_items-in-Chain
returns-in_ok-move_items-in-Chain c =
    let first = c.in-Chain.first in
    let rest = c.in-Chain.rest in
    let more = tree c.args.more.now in
    let ands : all_and (links (map link_part rest)) ≡ true = search (
      rules,
      c.in-Chain.rest-is,
      c.as_slice.ensures,
      c.is_all_and.ensures,
      c.if-is_all_and.true,
    ) in
    let longer : map link_part c.move_items.new.to ≡ map link_part rest ++ map and_link (conjuncts more) =
    search (rules, c.in-Chain.rest-is, c.in_ok-move_items-in-Chain.ensures) in
    chain_joined _ (tree c.args.cond.now) (tree first.value) more (map link_part rest)
    (map link_part c.move_items.new.to) (chain_form c.args.cond.now first rest c.in-Chain.is)
    (grind (arith, common_steps, the_lemmas)) ands longer

pub returns-in_ok-cond-in_default : goal.returns-in_ok-cond-in_default
returns-in_ok-cond-in_default c =
    let cond = c.args.cond.now in
    let more = tree c.args.more.now in
    let moved = map link_part c.move_items-in_default.new.to in
    let items : moved ≡ map and_link (conjuncts more) =
    c.in_ok-move_items-in_default.ensures
    ∙ ap (λ ls. map link_part ls ++ map and_link (conjuncts more)) c.new-rest.ensures in
    let made : tree c.in_ok-cond-in_default.field-0 ≡ chain (tree c.in_default.cond) (links moved) =
    c.in_ok-cond-in_default.ensures ∙ ap (λ e. chain (tree e) (links moved)) c.replace-first.ensures.value in
    elim c.in_default.branch [
      | in_default-via-in-Chain+else-is_all_and w ↦
          let first = w.in-Chain.first in
          let rest = w.in-Chain.rest in
          let not_all : all_and (links (map link_part rest)) ≡ false = search (
            rules,
            w.in-Chain.rest-is,
            w.as_slice.ensures,
            w.is_all_and.ensures,
            w.if-is_all_and.false,
          ) in
          let had : c.in_default.cond ≡ cond = grind (
            arith,
            common_steps,
            the_lemmas,
            w.cond-is,
            w.in-Chain.is,
            w.in-Chain.rest-is,
          ) in
          one_joined _ (tree cond) more moved
          (subst (λ e. conjuncts e ≡ e ∷ []) (sym (chain_form cond first rest w.in-Chain.is))
          (other_chain (tree first.value) (links (map link_part rest)) not_all))
          (made ∙ ap (λ e. chain (tree e) (links moved)) had) items
      | in_default-via-in_default w ↦
          one_joined _ (tree cond) more moved (one_part cond w.in_default.not-Chain)
          (made ∙ ap (λ e. chain (tree e) (links moved)) w.cond-is) items
    ]
