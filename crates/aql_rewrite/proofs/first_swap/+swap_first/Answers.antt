-- Each place that is found is the first one, by the case of the walk.
use Rattle.std.proofs.Common.{rules, ◌∙◌, ◌+◌, ◌<◌, false, ap, sym, arith}
use Rattle.std.proofs.lemmas.Result.{IfOk-weaker}
use Rattle.aql_plan.specs.Nodes.{weight}
use Rattle.aql_plan.specs.Plan.{top}
use Rattle.aql_plan.specs.View.{plan_tree}
use Rattle.aql_rewrite.specs.View.{above_uses}
use Rattle.aql_rewrite.specs.laws.Walk.{placed_input, placed_inside, above_new, above_old, weight_below, weight_body}
use Rattle.aql_rewrite.specs.laws.Walk.{found_below, found_here, found_inside, input_walked, node_walked}
use Rattle.aql_rewrite.specs.laws.RenamedPlans.{placed_plain}
use Rattle.aql_rewrite.proofs.first_swap.+swap_first.Goals as goal

pub swap_first-returns-in_ok-part-in-Some-2-clause-found :
    goal.swap_first-returns-in_ok-part-in-Some-2-clause-found
swap_first-returns-in_ok-part-in-Some-2-clause-found g t c =
    found_below _ _ _ _ _ _ _ _ c.in-Some.ensures (rw c.in-Some-2.is at c.in_ok-swap-in-Some.ensures.found)
    c.in_ok-part-in-Some-2.ensures

pub swap_first-returns-else-inside-clause-found : goal.swap_first-returns-else-inside-clause-found
swap_first-returns-else-inside-clause-found g t c =
    let none = rw c.in-None-2.is at c.in_ok-swap-in-Some.ensures.found in
    rw c.if-inside.false (IfOk-weaker c.swap_here.result _ _
    (λ o h. node_walked (g.R.Rule.rewrites c.args.rule.now c.args.facts.now) o (λ s. plan_tree s.part)
    (λ s. s.rename) (above_uses c.args.above.now.items) (above_uses c.as_slice.result.now)
    (plan_tree c.args.plan.now) (plan_tree c.in-Some.below.now)
    (ap above_uses (c.as_slice.ensures.value ∙ c.in_ok-swap-in-Some.ensures.kept)) c.in-Some.ensures
    (rw c.if-inside.false at none) h) c.swap_here.ensures)

pub swap_first_below-swap_first-requires : goal.swap_first_below-swap_first-requires
swap_first_below-swap_first-requires g t c κs within =
    let p = plan_tree c.args.plan.now in
    let b = plan_tree c.args.below.now in
    let k : weight b + (weight b + 1) < weight p + weight p
    = omega (arith, weight_below p b c.requires.is_input) in (
      search (rules, k),
      (
        search rules,
        placed_input (g.R.Rule.fragments c.args.rule.now) c.args.inside c.input_inside-within.result
            c.args.facts.now (above_uses c.args.above.now.items) (above_uses c.in_ok-alone.alone.items) p b
            c.requires.is_input c.input_inside-within.ensures
            (above_new c.in_ok-alone.alone.items c.in_ok-own.own (top p) (above_uses c.args.above.now.items)
            c.in_ok-alone.ensures c.in_ok-own.ensures (sym c.gives_new_rows.ensures ∙ c.if-gives_new_rows.true))
            c.requires.placed,
      ),
    )

pub swap_first_below-returns-then-gives_new_rows-clause-found :
    goal.swap_first_below-returns-then-gives_new_rows-clause-found
swap_first_below-returns-then-gives_new_rows-clause-found g t c =
    IfOk-weaker c.swap_first.result _ _
    (λ o h. input_walked (g.R.Rule.rewrites c.args.rule.now c.args.facts.now) o (λ s. plan_tree s.part)
    (λ s. s.rename) c.args.inside c.input_inside-within.result (above_uses c.args.above.now.items)
    (above_uses c.in_ok-alone.alone.items) (plan_tree c.args.plan.now) (plan_tree c.args.below.now)
    c.input_inside-within.ensures
    (above_new c.in_ok-alone.alone.items c.in_ok-own.own (top (plan_tree c.args.plan.now))
    (above_uses c.args.above.now.items) c.in_ok-alone.ensures c.in_ok-own.ensures
    (sym c.gives_new_rows.ensures ∙ c.if-gives_new_rows.true)) h) c.swap_first.ensures.found

pub swap_first_below-swap_first-requires-2 : goal.swap_first_below-swap_first-requires-2
swap_first_below-swap_first-requires-2 g t c κs within =
    let p = plan_tree c.args.plan.now in
    let b = plan_tree c.args.below.now in
    let k : weight b + (weight b + 1) < weight p + weight p
    = omega (arith, weight_below p b c.requires.is_input) in (
      search (rules, k),
      (
        search rules,
        placed_input (g.R.Rule.fragments c.args.rule.now) c.args.inside c.input_inside-within.result
            c.args.facts.now (above_uses c.args.above.now.items) (above_uses c.push.new.self.items) p b
            c.requires.is_input c.input_inside-within.ensures
            (above_old c.args.above.now.items c.push.new.self.items c.in_ok-own.own (top p)
            c.in_ok-push.ensures.items c.in_ok-own.ensures
            (sym c.gives_new_rows.ensures ∙ c.if-gives_new_rows.false)) c.requires.placed,
      ),
    )

pub swap_first_below-returns-clause-found : goal.swap_first_below-returns-clause-found
swap_first_below-returns-clause-found g t c =
    input_walked (g.R.Rule.rewrites c.args.rule.now c.args.facts.now) c.in_ok-found.found
    (λ s. plan_tree s.part) (λ s. s.rename) c.args.inside c.input_inside-within.result
    (above_uses c.args.above.now.items) (above_uses c.push.new.self.items) (plan_tree c.args.plan.now)
    (plan_tree c.args.below.now) c.input_inside-within.ensures
    (above_old c.args.above.now.items c.push.new.self.items c.in_ok-own.own (top (plan_tree c.args.plan.now))
    c.in_ok-push.ensures.items c.in_ok-own.ensures (sym c.gives_new_rows.ensures ∙ c.if-gives_new_rows.false))
    c.in_ok-found.ensures.found

pub swap_here-returns-in-Some : goal.swap_here-returns-in-Some
swap_here-returns-in-Some g t c = found_here _ _ _ _ _ (rw c.in-Some.is at c.in_ok-swap.ensures)

pub swap_here-swap_first-requires : goal.swap_here-swap_first-requires
swap_here-swap_first-requires g t c κs within =
    let p = plan_tree c.args.plan.now in
    let s = plan_tree c.in-Some-body.body.now in
    let k : weight s + (weight s + 1) < weight p + weight p
    = omega (arith, weight_body p s c.in-Some-body.ensures) in (
      search (rules, k),
      (
        search rules,
        placed_inside (g.R.Rule.fragments c.args.rule.now) false c.args.facts.now (above_uses c.args.above.now)
            (above_uses c.in_ok-results-in-Some-body.results.items) p s c.in-Some-body.ensures
            c.in_ok-results-in-Some-body.ensures c.requires,
      ),
    )

pub swap_here-returns : goal.swap_here-returns
swap_here-returns g t c =
    found_inside (g.R.Rule.rewrites c.args.rule.now c.args.facts.now) (above_uses c.args.above.now)
    (above_uses c.in_ok-results-in-Some-body.results.items) (plan_tree c.args.plan.now)
    (plan_tree c.in-Some-body.body.now) (plan_tree c.in-Some-2.swap.part)
    (plan_tree c.in_ok-part-in-Some-2.part) c.in-Some-2.swap.rename
    (rw c.in-None.is at c.in_ok-swap.ensures) c.in-Some-body.ensures c.in_ok-results-in-Some-body.ensures
    (rw c.in-Some-2.is at c.in_ok-swap_first-in-Some-body.ensures.found) c.in_ok-part-in-Some-2.ensures

pub swap_first-over_renamed-requires : goal.swap_first-over_renamed-requires
swap_first-over_renamed-requires g t c = placed_plain (g.R.Rule.fragments c.args.rule.now) c.args.inside
    c.args.facts.now (above_uses c.args.above.now.items) (plan_tree c.args.plan.now) c.requires
