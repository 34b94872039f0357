use Rattle.std.proofs.Common.{◌∙◌, ap, get_or}
use Rattle.aql_tree.specs.View.{tree}
use Rattle.aql_plan.specs.Plan.{Over, Filter}
use Rattle.aql_plan.specs.View.{plan_tree}
use Rattle.aql_scope.specs.laws.Turns.{one_further}
use Rattle.aql_build.proofs.Moved.{at_hand, none_left, side_moved, sides_moved}
use Rattle.aql_build.proofs.conditions.filter_sides.Goals as goal

pub loop-link-preserved : goal.loop-link-preserved
loop-link-preserved c =
    let all = c.args.rest.now in
    let i = c.loop-link.link-index in
    let items = c.loop-link.items in
    let plan = plan_tree c.loop-link.plan in
    let ahead = c.loop-link.invariant.1 in
    let here = at_hand all i items c.as_mut_slice-items.result.now c.link-item.result ahead
    c.as_mut_slice-items.ensures.value c.loop-link-test.true c.link-item.is in (
      side_moved all i (get_or items i c.link-item.result) plan (plan_tree c.in_ok-plan.plan) _ here
          c.loop-link.invariant.0 (c.in_ok-plan.ensures ∙ ap (λ e. Over plan (Filter (tree e))) c.take.ensures),
      one_further all i items ahead _,
    )

pub returns : goal.returns
returns c =
    let all = c.args.rest.now in
    let i = c.loop-link.link-index in
    sides_moved all i (plan_tree c.loop-link.plan) _
    (none_left all i c.as_mut_slice-items.result.now c.as_mut_slice-items.ensures.value c.loop-link-test.false)
    c.loop-link.invariant.0
