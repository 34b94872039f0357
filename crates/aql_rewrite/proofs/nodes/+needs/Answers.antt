-- What a plan needs, from its top node on down.
use Rattle.std.proofs.Common.{◌∙◌, ◌++◌, ap, sym}
use Rattle.std.proofs.lemmas.Result.{IfOk-equal}
use Rattle.aql_meaning.specs.Uses.{Uses}
use Rattle.aql_plan.specs.Needs.{needs}
use Rattle.aql_plan.specs.Plan.{top}
use Rattle.aql_plan.specs.Used.{uses_tree}
use Rattle.aql_plan.specs.View.{plan_tree}
use Rattle.aql_rewrite.specs.View.{above_uses}
use Rattle.aql_rewrite.specs.laws.Walk.{above_old, needs_old, collected}
use Rattle.aql_rewrite.proofs.nodes.+needs.Goals as goal

pub add_needs-returns-then-is_collect-clause-needs :
    goal.add_needs-returns-then-is_collect-clause-needs
add_needs-returns-then-is_collect-clause-needs t c =
    IfOk-equal c.add_above-then-is_collect.result _ _ _ c.add_above-then-is_collect.ensures
    (collected (uses_tree c.args.to.now) (uses_tree c.add_needs_below.new.to)
    (above_uses c.args.above.now.items) (above_uses c.as_slice-then-is_collect.result.now)
    (plan_tree c.args.plan.now) (plan_tree c.in-Some.below.now) c.in-Some.ensures
    (sym c.is_collect.ensures ∙ c.if-is_collect.true)
    (ap above_uses (c.as_slice-then-is_collect.ensures.value ∙ c.in_ok-add_needs_below-in-Some.ensures.kept))
    c.in_ok-add_needs_below-in-Some.ensures.needs)

pub add_needs-returns-else-is_collect-clause-needs :
    goal.add_needs-returns-else-is_collect-clause-needs
add_needs-returns-else-is_collect-clause-needs t c =
    c.in_ok-add_needs_below-in-Some.ensures.needs
    ∙ ap (λ (us : Uses). uses_tree c.args.to.now ++ us)
    (sym (needs_old (plan_tree c.args.plan.now) (plan_tree c.in-Some.below.now)
    (above_uses c.args.above.now.items) c.in-Some.ensures (sym c.is_collect.ensures ∙ c.if-is_collect.false)))

pub add_needs_below-returns-clause-needs : goal.add_needs_below-returns-clause-needs
add_needs_below-returns-clause-needs t c =
    c.in_ok-add_needs.ensures.needs
    ∙ ap (λ (us : Uses). uses_tree c.args.to.now ++ needs (plan_tree c.args.below.now) us)
    (above_old c.args.above.now.items c.push.new.self.items c.in_ok-own.own (top (plan_tree c.args.plan.now))
    c.in_ok-push.ensures.items c.in_ok-own.ensures (sym c.gives_new_rows.ensures ∙ c.if-gives_new_rows.false))
