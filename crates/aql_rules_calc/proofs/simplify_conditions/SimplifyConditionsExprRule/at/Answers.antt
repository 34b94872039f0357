use Rattle.aql_tree.specs.View.{tree}
use Rattle.aql_rules_calc.proofs.Taken.{taken_given, computed_given}
use Rattle.aql_rules_calc.proofs.simplify_conditions.SimplifyConditionsExprRule.at.Goals as goal

pub returns-in-Some : goal.returns-in-Some
returns-in-Some c =
    computed_given (tree c.args.expr.now) (tree c.in-Some.new) (rw c.in-Some.is at c.in_ok-new.ensures)

pub returns-in-None : goal.returns-in-None
returns-in-None c =
    taken_given (tree c.args.expr.now) (rw c.in-None.is at c.in_ok-new.ensures) c.member_at.result
    c.member_at.ensures
