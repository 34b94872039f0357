use Rattle.std.proofs.Common.{◌∙◌, ap, ap₂, sym}
use Rattle.aql_tree.specs.View.{tree}
use Rattle.aql_plan.specs.Nodes.{over}
use Rattle.aql_plan.specs.Plan.{Over, Filter}
use Rattle.aql_plan.specs.View.{plan_tree}
use Rattle.aql_rewrite.specs.View.{above_uses}
use Rattle.aql_rules_filter.specs.laws.FiltersUp.{moves_up_no_filter, moves_up_stays, moves_up_at}
use Rattle.aql_rules_filter.proofs.move_filters_up.MoveFiltersUpRule.at.Goals as goal

pub returns-in-None : goal.returns-in-None
returns-in-None c = moves_up_no_filter _ (plan_tree c.args.part.now) c.in-None.ensures

pub returns-then-not-may_swap : goal.returns-then-not-may_swap
returns-then-not-may_swap c = moves_up_stays _ (above_uses c.deref.result.now) (plan_tree c.args.part.now)
    (plan_tree c.in-Some.node.now) (tree c.in-Some.cond.now) c.in-Some.ensures
    (ap above_uses c.deref.ensures.value ∙ c.in_ok-used-in-Some-below.ensures)
    (sym c.may_swap.ensures ∙ c.if-not-may_swap.true)

pub returns-in_ok-part-in-Some-below : goal.returns-in_ok-part-in-Some-below
returns-in_ok-part-in-Some-below c = moves_up_at _ (above_uses c.deref.result.now) (plan_tree c.args.part.now)
    (plan_tree c.in-Some.node.now) (plan_tree c.in-Some-below.below.now) _ (tree c.in-Some.cond.now)
    c.in-Some.ensures (ap above_uses c.deref.ensures.value ∙ c.in_ok-used-in-Some-below.ensures)
    c.in-Some-below.ensures (sym c.may_swap.ensures ∙ c.if-not-may_swap.false)
    (c.in_ok-part-in-Some-below.ensures ∙ ap (over (plan_tree c.in-Some.node.now))
    (c.in_ok-lower-in-Some-below.ensures
    ∙ ap₂ (λ b e. Over b (Filter e)) c.in_ok-below-in-Some-below.ensures c.in_ok-cond-in-Some-below.ensures))
