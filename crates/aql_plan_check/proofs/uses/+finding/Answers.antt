-- A step of the walk.
use Rattle.std.proofs.Common.{◌≡◌, ◌∙◌, ◌<◌, ◌+◌, ◌*◌, ap, sym, subst, Bool, true≢false, arith, rules}
use Rattle.std.specs.Prelude.{◌↔◌, IsTrue}
use Rattle.aql_plan.specs.Nodes.{weight}
use Rattle.aql_plan.specs.Plan.{Plan, Over, Node, top}
use Rattle.aql_plan.specs.Variables.{FindsAll, input_uses, filter_uses, are_among}
use Rattle.aql_plan.specs.View.{plan_tree}
use Rattle.aql_rewrite.specs.laws.Walk.{weight_below}
use Rattle.aql_plan_check.specs.inner.Rows.{variables, ResultNumbered, Finds}
use Rattle.aql_plan_check.proofs.Finding.{at_plan, lost_below, lost_input, lost_body, found_over, as_result, result_found, kept_is, gives_rows}
use Rattle.aql_plan_check.proofs.Tests.{same_test}
use Rattle.aql_plan_check.proofs.UsesFound.{input_found, filter_found}
use Rattle.aql_plan_check.proofs.uses.+finding.Goals as goal

pub result_finds-returns-in-None : goal.result_finds-returns-in-None
result_finds-returns-in-None t c =
    absurd (subst (λ (p : Plan). ResultNumbered p) c.in-None.ensures c.requires)

pub result_finds-rows_find-requires : goal.result_finds-rows_find-requires
result_finds-rows_find-requires t c =
    let p = plan_tree c.args.plan.now in
    let b = plan_tree c.in-Some.below.now in
    let k : 3 * weight b + 1 < 3 * weight p + 2 = omega (arith, weight_below p b c.in-Some.ensures) in
    (search (rules, k), (as_result p b c.in-Some.ensures c.requires).3)

pub result_finds-returns-then-branch-clause-found : goal.result_finds-returns-then-branch-clause-found
result_finds-returns-then-branch-clause-found t c =
    let before = c.args.rows.now.keys in
    let middle = c.rows_find.new.rows.keys in
    let p = plan_tree c.args.plan.now in
    let below = plan_tree c.in-Some.below.now in
    let r = c.input_finds.result in
    let h = subst (λ (b : Bool). Finds before below middle b) c.if-branch.true c.in_ok-rows_find-in-Some.ensures in
    let one = as_result p below c.in-Some.ensures c.requires in
    subst (λ (q : Plan). IsTrue r ↔ FindsAll (variables before) q)
    (sym (c.in-Some.ensures ∙ ap (Over below) one.2))
    (result_found before below (top p) middle h one.0 one.1 r one.2
    (subst (λ (n : Node). r ≡ are_among (input_uses n) (variables middle)) one.2
    (same_test r (are_among (input_uses (top p)) (variables middle)) c.input_finds.ensures
    (input_found (variables middle) (top p)))))

pub rows_find-returns-then-not-branch : goal.rows_find-returns-then-not-branch
rows_find-returns-then-not-branch t c =
    let before = c.args.rows.now.keys in
    let middle = c.rows_find.new.rows.keys in
    let p = plan_tree c.args.plan.now in
    let below = plan_tree c.in-Some.below.now in
    let n = top p in
    at_plan before middle p (Over below n) _ c.in-Some.ensures
    (lost_below before below n middle middle
    (subst (λ (b : Bool). Finds before below middle b) c.if-not-branch.true c.in_ok-rows_find.ensures))

pub rows_find-returns-then-not-input_finds : goal.rows_find-returns-then-not-input_finds
rows_find-returns-then-not-input_finds t c =
    let before = c.args.rows.now.keys in
    let middle = c.rows_find.new.rows.keys in
    let p = plan_tree c.args.plan.now in
    let below = plan_tree c.in-Some.below.now in
    let n = top p in
    let r = c.input_finds.result in
    let h = subst (λ (b : Bool). Finds before below middle b) c.if-not-branch.false c.in_ok-rows_find.ensures in
    at_plan before middle p (Over below n) _ c.in-Some.ensures
    (lost_input before below n middle h middle
    (sym (same_test r (are_among (input_uses n) (variables middle)) c.input_finds.ensures
    (input_found (variables middle) n)) ∙ c.if-not-input_finds.true))

pub rows_find-returns-then-not-branch-2 : goal.rows_find-returns-then-not-branch-2
rows_find-returns-then-not-branch-2 t c =
    let before = c.args.rows.now.keys in
    let middle = c.rows_find.new.rows.keys in
    let after = c.body_finds.new.rows.keys in
    let p = plan_tree c.args.plan.now in
    let below = plan_tree c.in-Some.below.now in
    let n = top p in
    let h = subst (λ (b : Bool). Finds before below middle b) c.if-not-branch.false c.in_ok-rows_find.ensures in
    at_plan before after p (Over below n) _ c.in-Some.ensures
    (lost_body before below n middle h after
    (λ f. true≢false (sym (c.in_ok-body_finds.ensures.found.1 f) ∙ c.if-not-branch-2.true)))

pub rows_find-returns : goal.rows_find-returns
rows_find-returns t c =
    let before = c.args.rows.now.keys in
    let middle = c.rows_find.new.rows.keys in
    let after = c.add_sets.new.rows.keys in
    let p = plan_tree c.args.plan.now in
    let below = plan_tree c.in-Some.below.now in
    let n = top p in
    let h = subst (λ (b : Bool). Finds before below middle b) c.if-not-branch.false c.in_ok-rows_find.ensures in
    at_plan before after p (Over below n) _ c.in-Some.ensures
    (found_over before below n middle h
    (sym (same_test c.input_finds.result (are_among (input_uses n) (variables middle)) c.input_finds.ensures
    (input_found (variables middle) n)) ∙ c.if-not-input_finds.false)
    (c.in_ok-body_finds.ensures.found.0 c.if-not-branch-2.false)
    c.start_again.new.rows.keys after c.filter_finds.result
    (gives_rows p below n c.in-Some.ensures c.requires)
    (kept_is before below middle c.body_finds.new.rows.keys c.start_again.new.rows.keys n c.len-start.result h
    c.len-start.ensures.len (c.in_ok-body_finds.ensures.rows c.if-not-branch-2.false) c.start_again.ensures)
    c.in_ok-add_sets.ensures
    (same_test c.filter_finds.result (are_among (filter_uses n) (variables after)) c.filter_finds.ensures
    (filter_found (variables after) n)))
