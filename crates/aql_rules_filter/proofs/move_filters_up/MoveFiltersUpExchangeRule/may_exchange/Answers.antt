use Rattle.std.proofs.Common.{◌∙◌, ap}
use Rattle.aql_tree.specs.View.{tree}
use Rattle.aql_plan.specs.Plan.{top}
use Rattle.aql_plan.specs.View.{plan_tree}
use Rattle.aql_rewrite.specs.View.{above_uses}
use Rattle.aql_rules_filter.specs.laws.FiltersExchanged.{no_filter, filter_goes}
use Rattle.aql_rules_filter.proofs.move_filters_up.MoveFiltersUpExchangeRule.may_exchange.Goals as goal

pub returns-in-None : goal.returns-in-None
returns-in-None c = no_filter (plan_tree c.args.upper.now) (top (plan_tree c.args.lower.now)) c.in-None.ensures

pub returns-in_ok-used-in-Some : goal.returns-in_ok-used-in-Some
returns-in_ok-used-in-Some c = filter_goes (plan_tree c.args.upper.now) _ (tree c.in-Some.cond.now)
    (top (plan_tree c.args.lower.now)) (above_uses c.deref.result.now) c.may_swap.result c.in-Some.ensures
    (ap above_uses c.deref.ensures.value ∙ c.in_ok-used-in-Some.ensures) c.may_swap.ensures
