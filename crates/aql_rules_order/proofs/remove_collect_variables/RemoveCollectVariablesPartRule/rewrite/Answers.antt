use Rattle.std.proofs.Common.{◌∙◌, ap, sym}
use Rattle.aql_plan.specs.View.{node_tree, plan_tree}
use Rattle.aql_rules_order.specs.laws.VariablesDropped.{own_numbers, drops_at}
use Rattle.aql_rules_order.proofs.remove_collect_variables.RemoveCollectVariablesPartRule.rewrite.Goals as goal

pub are_kept-requires : goal.are_kept-requires
are_kept-requires c = rw c.deref.ensures
    (own_numbers _ _ (plan_tree c.args.part.now) _ _ c.requires (ap plan_tree c.in-Over.is))

pub drop_unused-requires : goal.drop_unused-requires
drop_unused-requires c = rw c.deref_mut.ensures.value
    (own_numbers _ _ (plan_tree c.args.part.now) _ _ c.requires (ap plan_tree c.in-Over.is))

pub returns-in_ok-drop_unused-in-Over : goal.returns-in_ok-drop_unused-in-Over
returns-in_ok-drop_unused-in-Over c = drops_at _ (plan_tree c.args.part.now)
    (plan_tree c.in-Over.below.value) (node_tree c.in-Over.node.value) _ (ap plan_tree c.in-Over.is)
    (rw c.deref.ensures at (sym c.are_kept.ensures ∙ c.if-are_kept.false))
    (rw c.deref_mut.ensures.value at c.in_ok-drop_unused-in-Over.ensures)
