use Rattle.aql_plan.specs.View.{plan_tree}
use Rattle.aql_rules_index.proofs.SortFound.{sort_stays, sort_gone}
use Rattle.aql_rules_index.proofs.use_index_for_sort.UseIndexForSortPartRule.rewrite.Goals as goal

pub returns-then-not-branch : goal.returns-then-not-branch
returns-then-not-branch c =
    let k = rw c.if-not-branch.true at c.in_ok-order_sorted.ensures in
    (sort_stays c.args.facts.now _ (plan_tree c.args.part.now) k.0, k.1)

pub returns : goal.returns
returns c =
    let k = rw c.if-not-branch.false at c.in_ok-order_sorted.ensures in
    sort_gone c.args.facts.now _ (plan_tree c.args.part.now) (plan_tree c.order_sorted.new.plan)
    (plan_tree c.replace_below-below.result) k c.replace_below-below.ensures.input
