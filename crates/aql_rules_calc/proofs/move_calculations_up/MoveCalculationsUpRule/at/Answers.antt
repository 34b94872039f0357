use Rattle.std.proofs.Common.{◌∙◌, ap, sym}
use Rattle.aql_plan.specs.Nodes.{over}
use Rattle.aql_plan.specs.View.{plan_tree}
use Rattle.aql_rules_calc.specs.laws.Moved.{moves_at}
use Rattle.aql_rules_calc.proofs.move_calculations_up.MoveCalculationsUpRule.at.Goals as goal

pub returns-in_ok-part-in-Some-below : goal.returns-in_ok-part-in-Some-below
returns-in_ok-part-in-Some-below c =
    let upper = plan_tree c.args.part.now in
    let lower = plan_tree c.in-Some.lower.now in
    moves_at _ upper lower (plan_tree c.in-Some-below.below.now) _ c.in-Some.ensures c.in-Some-below.ensures
    (sym c.may_pass.ensures ∙ c.if-not-may_pass.false)
    (sym c.in_ok-uses_none-in-Some-below.ensures ∙ c.if-not-branch.false)
    (c.in_ok-part-in-Some-below.ensures ∙ ap (over lower)
    (c.in_ok-upper-in-Some-below.ensures ∙ ap (over upper) c.in_ok-below-in-Some-below.ensures))
