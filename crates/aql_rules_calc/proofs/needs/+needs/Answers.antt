use Rattle.std.proofs.Common.{◌∙◌, ap, sym}
use Rattle.std.proofs.lemmas.Result.{IfOk-weaker}
use Rattle.aql_tree.specs.declared.syntax.Ident.TheVariants.{Num}
use Rattle.aql_plan.specs.Needs.{under, result_uses}
use Rattle.aql_plan.specs.Plan.{top}
use Rattle.aql_plan.specs.View.{plan_tree}
use Rattle.aql_meaning.specs.Uses.{is_used}
use Rattle.aql_rewrite.specs.laws.Walk.{alone_with}
use Rattle.aql_rules_calc.specs.laws.Needed.{input_needed, start_needed, result_needed}
use Rattle.aql_rules_calc.proofs.needs.+needs.Goals as goal

pub node_uses-returns-in-Some : goal.node_uses-returns-in-Some
node_uses-returns-in-Some t c = IfOk-weaker c.plan_needs.result _ _
    (λ needed h. h result_uses (result_needed c.args.var)
    ∙ ap (is_used (Num c.args.var))
    (sym (alone_with (top (plan_tree c.args.node.now)) (plan_tree c.in-Some.body.now) c.in-Some.ensures)))
    c.plan_needs.ensures

pub plan_needs-returns-in_ok-needed-in-Some : goal.plan_needs-returns-in_ok-needed-in-Some
plan_needs-returns-in_ok-needed-in-Some t c us h =
    let x = Num c.args.var in
    let n = top (plan_tree c.args.plan.now) in
    start_needed x (plan_tree c.args.plan.now) (plan_tree c.in-Some.below.now) us
    c.in_ok-needed-in-Some.needed c.args.above c.start_needs.result c.in-Some.ensures
    (c.in_ok-needed-in-Some.ensures (under n us)
    (input_needed x n us c.in_ok-own-in-Some.own c.args.above c.input_needs-used.result
    c.in_ok-own-in-Some.ensures h c.input_needs-used.ensures))
    h c.start_needs.ensures
