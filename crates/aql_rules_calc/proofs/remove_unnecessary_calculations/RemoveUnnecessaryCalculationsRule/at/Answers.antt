use Rattle.std.proofs.Common.{◌∙◌, sym}
use Rattle.aql_plan.specs.View.{plan_tree}
use Rattle.aql_rewrite.specs.View.{above_uses}
use Rattle.aql_rules_calc.specs.laws.UnnecessaryCalculations.{needed_stays, removes_at}
use Rattle.aql_rules_calc.proofs.remove_unnecessary_calculations.RemoveUnnecessaryCalculationsRule.at.Goals as goal

pub returns-then-not-is_unneeded : goal.returns-then-not-is_unneeded
returns-then-not-is_unneeded c = needed_stays (above_uses c.args.above.now) (plan_tree c.args.part.now)
    (sym c.is_unneeded.ensures ∙ c.if-not-is_unneeded.true)

pub returns-in_ok-part-in-Some : goal.returns-in_ok-part-in-Some
returns-in_ok-part-in-Some c = removes_at (above_uses c.args.above.now) (plan_tree c.args.part.now)
    (plan_tree c.in-Some.below.now) _ c.in-Some.ensures (sym c.is_unneeded.ensures ∙ c.if-not-is_unneeded.false)
    c.in_ok-part-in-Some.ensures
