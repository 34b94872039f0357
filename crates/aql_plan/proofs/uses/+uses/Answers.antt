-- What an access uses, and what a ternary uses, whose middle may be missing.
use Rattle.std.proofs.Common.{◌≡◌, ◌∙◌, ◌+◌, List, [], ◌∷◌, ◌++◌, map, option_map, drop, refl, ap, sym, append_assoc}
use Rattle.std.proofs.lemmas.List.{map-append, append-nil}
use Rattle.std.proofs.lemmas.Result.{on_ok_weaker}
use Rattle.aql_tree.specs.Tree.{access}
use Rattle.aql_tree.specs.View.{tree, trees, maybe, steps, step_part, links, link_part, LinkPart}
use Rattle.aql_tree.specs.declared.syntax.Expr.{Expr}
use Rattle.aql_tree.specs.declared.syntax.Link.{Link}
use Rattle.aql_tree.specs.laws.Parts.{access_form, ternary_form, link_is}
use Rattle.aql_meaning.specs.Uses.{Uses, uses, all_uses, maybe_uses, step_uses, link_uses}
use Rattle.aql_plan.specs.Used.{use_tree, uses_tree, attribute_used}
use Rattle.aql_plan.proofs.AccessUses.{used_whole, used_part, three_appended}
use Rattle.aql_plan.proofs.Appended.{one_passed, all_passed}
use Rattle.aql_plan.proofs.uses.+uses.Goals as goal
use Rattle.aql_plan.proofs.uses.+uses.Goals.{add_uses-in-Some+in_ok-push-in-Some, add_uses-in-None+in_ok-add_uses-in-None}
use Rattle.aql_plan.proofs.uses.+uses.Goals.{add_uses-in-Some-yes+in_ok-add_uses-in-Some-yes, add_uses-in-None-yes}

pub add_uses-returns-after-branch-3 : goal.add_uses-returns-after-branch-3
add_uses-returns-after-branch-3 t c =
    let n = c.in-Access in
    let e = tree n.of.value in
    let all = steps (map step_part n.steps) in
    let before = uses_tree c.args.to.now in
    let found : option_map use_tree c.in_ok-part-in-Access.field-0 ≡ attribute_used e all
    = c.in_ok-part-in-Access.ensures
    ∙ ap (λ x. attribute_used (tree x) (steps (map step_part c.as_slice-in-Access.result.now))) c.deref.ensures
    ∙ ap (λ ss. attribute_used e (steps (map step_part ss))) c.as_slice-in-Access.ensures in
    let given : uses_tree c.match-branch-3.to ++ step_uses all ≡ before ++ uses (access e all)
    = elim c.match-branch-3.branch [
      | add_uses-in-Some+in_ok-push-in-Some w ↦
          let u = use_tree w.in-Some.part in
          ap (λ us. uses_tree us ++ step_uses all) (w.to-is ∙ w.in_ok-push-in-Some.ensures.ok)
          ∙ ap (λ us. us ++ step_uses all) (map-append use_tree c.args.to.now (w.in-Some.part ∷ []))
          ∙ append_assoc before (u ∷ []) (step_uses all)
          ∙ ap (λ us. before ++ us) (sym (used_part e all u (sym found ∙ ap (option_map use_tree) w.in-Some.is)))
      | add_uses-in-None+in_ok-add_uses-in-None w ↦
          ap (λ us. uses_tree us ++ step_uses all) w.to-is
          ∙ ap (λ us. us ++ step_uses all) w.in_ok-add_uses-in-None.ensures
          ∙ ap (λ x. (before ++ uses (tree x)) ++ step_uses all) w.deref-in-None.ensures
          ∙ append_assoc before (uses e) (step_uses all)
          ∙ ap (λ us. before ++ us) (sym (used_whole e all (sym found ∙ ap (option_map use_tree) w.in-None.is)))
    ] in
    on_ok_weaker c.add_step_uses.result
    (λ h. h ∙ ap (λ ss. uses_tree c.match-branch-3.to ++ step_uses (steps (map step_part ss))) c.as_slice-in-Access-2.ensures
    ∙ given ∙ sym (ap (λ d. before ++ uses d) (access_form c.args.expr.now n.of n.steps n.is)))
    c.add_step_uses.ensures

pub add_uses-returns-after-yes : goal.add_uses-returns-after-yes
add_uses-returns-after-yes t c =
    let n = c.in-Cond in
    let before = uses_tree c.args.to.now in
    let first = uses_tree c.add_uses-in-Cond.new.to in
    let middle = maybe_uses (maybe (option_map (λ b. tree b.value) n.yes)) in
    let given : uses_tree c.match-yes.to ≡ first ++ middle
    = elim c.match-yes.branch [
      | add_uses-in-Some-yes+in_ok-add_uses-in-Some-yes w ↦
          ap uses_tree w.to-is ∙ w.in_ok-add_uses-in-Some-yes.ensures
          ∙ ap (λ x. first ++ uses (tree x)) w.deref-in-Some-yes.ensures
          ∙ sym (ap (λ o. first ++ maybe_uses (maybe (option_map (λ b. tree b.value) o))) w.in-Some-yes.is)
      | add_uses-in-None-yes w ↦
          ap uses_tree w.to-is ∙ sym (append-nil first)
          ∙ sym (ap (λ o. first ++ maybe_uses (maybe (option_map (λ b. tree b.value) o))) w.in-None-yes.is)
    ] in
    on_ok_weaker c.add_uses-in-Cond-2.result
    (λ h. three_appended before first (uses_tree c.match-yes.to) (uses_tree c.add_uses-in-Cond-2.new.to)
    (uses (tree n.test.value)) middle (uses (tree n.no.value))
    (c.in_ok-add_uses-in-Cond.ensures ∙ ap (λ x. before ++ uses (tree x)) c.deref-in-Cond.ensures) given
    (h ∙ ap (λ x. uses_tree c.match-yes.to ++ uses (tree x)) c.deref-in-Cond-2.ensures)
    ∙ sym (ap (λ d. before ++ uses d) (ternary_form c.args.expr.now n.test n.yes n.no n.is)))
    c.add_uses-in-Cond-2.ensures

abbrev of_exprs : List Expr → Uses
of_exprs es = all_uses (trees (map tree es))

pub add_all_uses-loop-expr-preserved : goal.add_all_uses-loop-expr-preserved
add_all_uses-loop-expr-preserved t c =
    let item = c.expr-item.result in
    one_passed of_exprs c.args.exprs.now c.loop-expr.expr-index item (uses_tree c.loop-expr.to) _
    (uses (tree item)) _ c.loop-expr-test.true c.expr-item.is refl c.in_ok-add_uses.ensures
    c.loop-expr.invariant

pub add_all_uses-returns : goal.add_all_uses-returns
add_all_uses-returns t c =
    all_passed of_exprs c.args.exprs.now c.loop-expr.expr-index _ _ c.loop-expr-test.false refl
    c.loop-expr.invariant

abbrev of_links : List Link → Uses
of_links ls = link_uses (links (map link_part ls))

pub add_link_uses-loop-link-preserved : goal.add_link_uses-loop-link-preserved
add_link_uses-loop-link-preserved t c =
    let item = c.link-item.result in
    let after = of_links (drop (c.loop-link.link-index + 1) c.args.all.now) in
    one_passed of_links c.args.all.now c.loop-link.link-index item (uses_tree c.loop-link.to) _
    (uses (tree item.right)) _ c.loop-link-test.true c.link-item.is
    (ap (λ (p : LinkPart). uses p.1 ++ after) (link_is item)) c.in_ok-add_uses.ensures c.loop-link.invariant

pub add_link_uses-returns : goal.add_link_uses-returns
add_link_uses-returns t c =
    all_passed of_links c.args.all.now c.loop-link.link-index _ _ c.loop-link-test.false refl
    c.loop-link.invariant
