use Rattle.std.proofs.Common.{◌∙◌, true≢false, sym}
use Rattle.aql_plan.specs.View.{plan_tree}
use Rattle.aql_rules_order.specs.laws.SortsRemoved.{idle_at, order_lost_at}
use Rattle.aql_rules_order.proofs.remove_redundant_sorts.RemoveRedundantSortsPartRule.rewrite.Goals as goal

pub returns-then-branch : goal.returns-then-branch
returns-then-branch c = idle_at _ (plan_tree c.args.part.now) (plan_tree c.remove_top.new.plan)
    (c.in_ok-is_idle.ensures.0 c.if-branch.true) c.remove_top.ensures

pub returns : goal.returns
returns c = order_lost_at _ (plan_tree c.args.part.now) (plan_tree c.remove_sort_below.new.plan)
    c.remove_sort_below.result
    (λ h. true≢false (sym (c.in_ok-is_idle.ensures.1 h) ∙ c.if-branch.false))
    (sym c.ignores_order.ensures ∙ c.if-not-ignores_order.false) c.remove_sort_below.ensures
