use Rattle.std.proofs.Common.{◌∙◌, ap}
use Rattle.aql_tree.specs.declared.syntax.Ident.TheVariants.{Num}
use Rattle.aql_plan.specs.View.{plan_tree}
use Rattle.aql_rules_order.specs.Readers.{with_value}
use Rattle.aql_rules_order.specs.laws.SubqueriesInlined.{input_is, body_is, start_is, inlined_is}
use Rattle.aql_rules_order.proofs.inline_subqueries.inline.Goals as goal

pub returns : goal.returns
returns c =
    let node = plan_tree c.replace_below-node.result in
    let body = plan_tree c.replace_body-body.result in
    let start = plan_tree c.replace_below-start.result in
    let before = plan_tree c.replace_body-body.new.node in
    inlined_is (Num c.args.var) (plan_tree c.args.part.now) node body start _
    (input_is (plan_tree c.args.part.now) node c.replace_below-node.ensures.input
    c.replace_below-node.ensures.given_back)
    (body_is node body c.replace_body-body.ensures.had c.replace_body-body.ensures.given_back)
    (start_is node before start c.replace_body-body.ensures.with
    (input_is before start c.replace_below-start.ensures.input c.replace_below-start.ensures.given_back))
    (c.set_value_at.ensures ∙ ap (with_value (Num c.args.var)) c.start_from.ensures)
