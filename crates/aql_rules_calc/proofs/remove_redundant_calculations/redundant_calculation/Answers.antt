use Rattle.std.proofs.Common.{subst}
use Rattle.aql_tree.specs.View.{tree}
use Rattle.aql_plan.specs.Plan.{Plan, top}
use Rattle.aql_plan.specs.View.{plan_tree}
use Rattle.aql_rewrite.specs.Plain.{NodePlain}
use Rattle.aql_rules_calc.specs.laws.CalculatedTwice.{redundant_found, no_calculation, not_calculated}
use Rattle.aql_rules_calc.proofs.remove_redundant_calculations.redundant_calculation.Goals as goal

pub find_calculation-requires : goal.find_calculation-requires
find_calculation-requires c = (subst (λ (p : Plan). NodePlain (top p)) c.in-Some.ensures c.requires).0

pub returns-in-None : goal.returns-in-None
returns-in-None c = no_calculation (plan_tree c.args.part.now) c.in-None.ensures

pub returns-in-None-find_calculation : goal.returns-in-None-find_calculation
returns-in-None-find_calculation c =
    not_calculated (plan_tree c.args.part.now) (plan_tree c.in-Some.below.now)
    c.in-Some.var (tree c.in-Some.expr.now) c.in-Some.ensures c.in-None-find_calculation.ensures

pub returns-in-Some-find_calculation : goal.returns-in-Some-find_calculation
returns-in-Some-find_calculation c =
    redundant_found (plan_tree c.args.part.now) (plan_tree c.in-Some.below.now)
    c.in-Some.var c.in-Some-find_calculation.lower (tree c.in-Some.expr.now) c.in-Some.ensures
    c.in-Some-find_calculation.ensures
