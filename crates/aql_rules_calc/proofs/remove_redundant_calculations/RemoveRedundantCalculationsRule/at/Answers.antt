use Rattle.std.proofs.Common.{false, sym, subst}
use Rattle.std.specs.Prelude.{Some}
use Rattle.aql_plan.specs.Plan.{Plan}
use Rattle.aql_plan.specs.View.{plan_tree}
use Rattle.aql_rewrite.specs.View.{above_uses}
use Rattle.aql_rewrite.specs.laws.RenamedPlans.{placed_plain}
use Rattle.aql_rules_calc.specs.RemoveRedundantCalculations.{Redundant}
use Rattle.aql_rules_calc.proofs.remove_redundant_calculations.RemoveRedundantCalculationsRule.at.Goals as goal

pub redundant_calculation-requires : goal.redundant_calculation-requires
redundant_calculation-requires c = placed_plain false false c.args._facts.now (above_uses c.args._above.now)
    (plan_tree c.args.part.now) c.requires

pub returns-in-None : goal.returns-in-None
returns-in-None c = c.in-None.ensures (above_uses c.args._above.now)

pub returns-in_ok-part-in-Some : goal.returns-in_ok-part-in-Some
returns-in_ok-part-in-Some c =
    let us = above_uses c.args._above.now in
    subst (λ (o : Plan). Redundant us (plan_tree c.args.part.now) o (Some c.in-Some.rename))
    (sym c.in_ok-part-in-Some.ensures) (c.in-Some.ensures us).1
