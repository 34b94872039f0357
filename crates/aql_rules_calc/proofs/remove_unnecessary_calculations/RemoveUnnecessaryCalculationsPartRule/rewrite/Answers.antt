use Rattle.std.proofs.Common.{◌∙◌, refl, sym}
use Rattle.aql_plan.specs.View.{plan_tree}
use Rattle.aql_rewrite.specs.View.{above_uses}
use Rattle.aql_rules_calc.specs.laws.UnnecessaryCalculations.{needed_stays, removes_back}
use Rattle.aql_rules_calc.proofs.remove_unnecessary_calculations.RemoveUnnecessaryCalculationsPartRule.rewrite.Goals as goal

pub returns-then-not-is_unneeded : goal.returns-then-not-is_unneeded
returns-then-not-is_unneeded c = (
  needed_stays (above_uses c.args.above.now) (plan_tree c.args.part.now)
      (sym c.is_unneeded.ensures ∙ c.if-not-is_unneeded.true),
  refl,
)

pub returns : goal.returns
returns c = removes_back (above_uses c.args.above.now) (plan_tree c.args.part.now)
    (plan_tree c.replace_below-below.result) _ c.replace_below-below.ensures.input
    (sym c.is_unneeded.ensures ∙ c.if-not-is_unneeded.false) refl
