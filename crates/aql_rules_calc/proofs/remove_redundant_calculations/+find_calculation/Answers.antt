use Rattle.std.proofs.Common.{◌∙◌, sym}
use Rattle.aql_tree.specs.declared.syntax.Ident.TheVariants.{Num}
use Rattle.aql_tree.specs.View.{tree}
use Rattle.aql_plan.specs.View.{plan_tree}
use Rattle.aql_rules_calc.specs.laws.CalculatedTwice.{calculated_here, handed_on}
use Rattle.aql_rules_calc.proofs.remove_redundant_calculations.+find_calculation.Goals as goal

pub returns-in-Some-calculates : goal.returns-in-Some-calculates
returns-in-Some-calculates t c = calculated_here (plan_tree c.args.plan.now) (plan_tree c.in-Some.below.now)
    (Num c.in-Some-calculates.var) (tree c.args.expr.now) c.in-Some.ensures c.in-Some-calculates.ensures

pub returns-else-gives_new_rows : goal.returns-else-gives_new_rows
returns-else-gives_new_rows t c = handed_on (plan_tree c.args.plan.now) (plan_tree c.in-Some.below.now)
    (tree c.args.expr.now) c.find_calculation.result c.in-Some.ensures c.in-None-calculates.ensures
    (sym c.gives_new_rows.ensures ∙ c.if-gives_new_rows.false) c.find_calculation.ensures
