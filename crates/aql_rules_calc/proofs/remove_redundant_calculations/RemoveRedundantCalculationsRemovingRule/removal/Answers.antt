use Rattle.std.proofs.Common.{[], false}
use Rattle.aql_plan.specs.View.{plan_tree}
use Rattle.aql_rewrite.specs.laws.RenamedPlans.{placed_plain}
use Rattle.aql_rules_calc.specs.laws.CalculatedTwice.{redundant_takes}
use Rattle.aql_rules_calc.proofs.remove_redundant_calculations.RemoveRedundantCalculationsRemovingRule.removal.Goals as goal

pub redundant_calculation-requires : goal.redundant_calculation-requires
redundant_calculation-requires c =
    placed_plain false false c.args._facts.now [] (plan_tree c.args.part.now) c.requires

pub returns-in-None : goal.returns-in-None
returns-in-None c = c.in-None.ensures []

pub returns-in-Some : goal.returns-in-Some
returns-in-Some c = redundant_takes _ _ c.in-Some.rename c.in-Some.ensures
