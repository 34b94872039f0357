use Rattle.std.proofs.Common.{◌∙◌, sym}
use Rattle.aql_tree.specs.declared.syntax.Ident.TheVariants.{Num}
use Rattle.aql_plan.specs.View.{plan_tree}
use Rattle.aql_rules_order.specs.laws.SubqueriesInlined.{inlines_at}
use Rattle.aql_rules_order.proofs.inline_subqueries.inlined_at.Goals as goal

pub returns-then-may_inline : goal.returns-then-may_inline
returns-then-may_inline c = inlines_at _ (plan_tree c.args.part.now) (plan_tree c.in_ok-node.node.now)
    (Num c.in_ok-node.var) c.in_ok-node.over.now c.in_ok-node.ensures (plan_tree c.in_ok-start.start.now)
    (plan_tree c.in_ok-start.body.now) (Num c.in_ok-start.own) c.in_ok-start.ensures
    (plan_tree c.in_ok-inner.inner.now) c.in_ok-inner.ensures.0 c.in_ok-inner.ensures.1
    (sym c.is_variable.ensures ∙ c.if-is_variable.true) (sym c.may_inline.ensures ∙ c.if-may_inline.true)
