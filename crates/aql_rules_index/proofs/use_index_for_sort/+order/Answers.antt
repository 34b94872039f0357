use Rattle.std.proofs.Common.{◌∙◌, refl, sym, ap}
use Rattle.aql_plan.specs.declared.plan.Plan.{Plan}
use Rattle.aql_plan.specs.View.{plan_tree, node_tree, key_trees}
use Rattle.aql_plan.specs.Plan as spec
use Rattle.aql_tree.specs.declared.syntax.Ident.TheVariants.{Num}
use Rattle.aql_rules_index.proofs.SortFound.{input_orders, order_through}
use Rattle.aql_rules_index.proofs.use_index_for_sort.+order.Goals as goal

pub order_input-returns-in_ok-changed-in-Over : goal.order_input-returns-in_ok-changed-in-Over
order_input-returns-in_ok-changed-in-Over t c =
    input_orders c.args.facts.now c.args.descending (key_trees c.args.keys.now) (plan_tree c.args.plan.now) _
    (plan_tree c.deref_mut.result.now) (plan_tree c.order_rows.new.plan) (node_tree c.in-Over.node.value)
    c.in_ok-changed-in-Over.changed
    (ap plan_tree c.in-Over.is
    ∙ ap (λ (b : Plan). spec.Over (plan_tree b) (node_tree c.in-Over.node.value)) (sym c.deref_mut.ensures.value))
    refl c.in_ok-changed-in-Over.ensures

pub order_input-returns-in_ok-changed-in-Subquery : goal.order_input-returns-in_ok-changed-in-Subquery
order_input-returns-in_ok-changed-in-Subquery t c =
    input_orders c.args.facts.now c.args.descending (key_trees c.args.keys.now) (plan_tree c.args.plan.now) _
    (plan_tree c.deref_mut-in-Subquery.result.now) (plan_tree c.order_rows-in-Subquery.new.plan)
    (spec.Subquery (Num c.in-Subquery.var) (plan_tree c.in-Subquery.body.value))
    c.in_ok-changed-in-Subquery.changed
    (ap plan_tree c.in-Subquery.is
    ∙ ap (λ (b : Plan). spec.Over (plan_tree b) (spec.Subquery (Num c.in-Subquery.var)
    (plan_tree c.in-Subquery.body.value))) (sym c.deref_mut-in-Subquery.ensures.value))
    refl c.in_ok-changed-in-Subquery.ensures

pub order_rows-returns : goal.order_rows-returns
order_rows-returns t c = order_through c.args.facts.now c.args.descending (key_trees c.args.keys.now)
    (plan_tree c.args.plan.now) (plan_tree c.order_input.new.plan) c.in_ok-changed.changed
    (sym c.leaves_order.ensures ∙ c.if-not-leaves_order.false) c.in_ok-changed.ensures
