use Rattle.std.proofs.Common.{◌∙◌, sym}
use Rattle.aql_plan.specs.View.{plan_tree}
use Rattle.aql_rules_order.specs.laws.SortsRemoved.{sort_out_at, sort_through}
use Rattle.aql_rules_order.proofs.remove_redundant_sorts.+remove.Goals as goal

pub remove_sort-returns-then-is_open_sort : goal.remove_sort-returns-then-is_open_sort
remove_sort-returns-then-is_open_sort t c = sort_out_at (plan_tree c.args.plan.now)
    (plan_tree c.remove_top.new.plan) (sym c.is_open_sort.ensures ∙ c.if-is_open_sort.true)
    c.remove_top.ensures

pub remove_sort-returns : goal.remove_sort-returns
remove_sort-returns t c = sort_through (plan_tree c.args.plan.now) (plan_tree c.remove_sort_below.new.plan)
    c.remove_sort_below.result (sym c.is_open_sort.ensures ∙ c.if-is_open_sort.false)
    (sym c.goes_by_row.ensures ∙ c.if-not-goes_by_row.false) c.remove_sort_below.ensures
