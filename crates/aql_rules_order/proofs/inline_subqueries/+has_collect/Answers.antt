use Rattle.std.proofs.Common.{◌∙◌, sym}
use Rattle.aql_plan.specs.View.{plan_tree}
use Rattle.aql_rules_order.specs.laws.SubqueriesInlined.{collect_same}
use Rattle.aql_rules_order.proofs.inline_subqueries.+has_collect.Goals as goal

pub returns-else-is_collect : goal.returns-else-is_collect
returns-else-is_collect t c = c.has_collect.ensures
    ∙ collect_same (plan_tree c.args.plan.now) (plan_tree c.in-Some.below.now) c.in-Some.ensures
    (sym c.is_collect.ensures ∙ c.if-is_collect.false)
