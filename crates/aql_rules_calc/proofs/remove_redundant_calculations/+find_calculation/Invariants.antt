use Rattle.aql_plan.specs.Nodes.{weight}
use Rattle.aql_plan.specs.View.{plan_tree}
use Rattle.aql_rules_calc.proofs.remove_redundant_calculations.+find_calculation.Given as goal

abbrev pub decreases-find_calculation : goal.decreases-find_calculation
decreases-find_calculation l = weight (plan_tree l.plan.now)
