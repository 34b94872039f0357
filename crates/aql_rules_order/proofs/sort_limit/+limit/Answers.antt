use Rattle.std.proofs.Common.{◌∙◌, sym}
use Rattle.aql_plan.specs.View.{plan_tree}
use Rattle.aql_rules_order.specs.laws.SortsLimited.{limit_at, limit_through}
use Rattle.aql_rules_order.proofs.sort_limit.+limit.Goals as goal

pub limit_sort-returns-then-is_open_sort : goal.limit_sort-returns-then-is_open_sort
limit_sort-returns-then-is_open_sort t c = limit_at c.args.limit (plan_tree c.args.plan.now)
    (plan_tree c.set_limit.new.plan) (sym c.is_open_sort.ensures ∙ c.if-is_open_sort.true) c.set_limit.ensures

pub limit_sort-returns : goal.limit_sort-returns
limit_sort-returns t c = limit_through c.args.limit (plan_tree c.args.plan.now)
    (plan_tree c.limit_below.new.plan) c.limit_below.result
    (sym c.is_open_sort.ensures ∙ c.if-is_open_sort.false)
    (sym c.sets_value.ensures ∙ c.if-not-sets_value.false) c.limit_below.ensures
