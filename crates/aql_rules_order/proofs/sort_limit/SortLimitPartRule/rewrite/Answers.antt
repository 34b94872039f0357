use Rattle.aql_plan.specs.View.{plan_tree}
use Rattle.aql_rules_order.specs.laws.SortsLimited.{limits_changed}
use Rattle.aql_rules_order.proofs.sort_limit.SortLimitPartRule.rewrite.Goals as goal

pub returns-in-Some : goal.returns-in-Some
returns-in-Some c = limits_changed _ (plan_tree c.args.part.now) (plan_tree c.limit_below.new.plan)
    c.in-Some.offset c.in-Some.count c.limit_below.result c.in-Some.ensures c.limit_below.ensures
