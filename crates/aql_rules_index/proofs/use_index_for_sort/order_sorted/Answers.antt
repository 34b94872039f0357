use Rattle.std.proofs.Common.{◌∙◌, refl, sym, ap}
use Rattle.aql_plan.specs.declared.plan.Plan.{Plan}
use Rattle.aql_plan.specs.Plan as spec
use Rattle.aql_plan.specs.View.{plan_tree, node_tree, key_trees, directions}
use Rattle.aql_rules_index.proofs.SortFound.{sort_becomes}
use Rattle.aql_rules_index.proofs.use_index_for_sort.order_sorted.Goals as goal

pub returns-in_ok-changed-in-Some : goal.returns-in_ok-changed-in-Some
returns-in_ok-changed-in-Some c =
    sort_becomes c.args.facts.now (plan_tree c.args.plan.now) _ (plan_tree c.deref_mut.result.now)
    (plan_tree c.order_by.new.plan) (node_tree c.in-Over.node.value) (directions c.in-Some.keys.now)
    (key_trees c.in-Some.keys.now) c.in_ok-changed-in-Some.changed
    (ap plan_tree c.in-Over.is
    ∙ ap (λ (b : Plan). spec.Over (plan_tree b) (node_tree c.in-Over.node.value)) (sym c.deref_mut.ensures.value))
    refl (ap node_tree (sym c.deref.ensures) ∙ c.in-Some.ensures) c.in_ok-changed-in-Some.ensures
