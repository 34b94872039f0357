use Rattle.std.proofs.lemmas.Result.{IfOk-weaker}
use Rattle.aql_plan.specs.Plan.{top}
use Rattle.aql_plan.specs.View.{plan_tree}
use Rattle.aql_rules_calc.specs.laws.CalculationsExchanged.{no_pass, passes_where}
use Rattle.aql_rules_calc.proofs.move_calculations_up.MoveCalculationsUpExchangeRule.may_exchange.Goals as goal

pub returns-then-not-may_pass : goal.returns-then-not-may_pass
returns-then-not-may_pass c = no_pass (top (plan_tree c.args.upper.now)) (top (plan_tree c.args.lower.now))
    c.may_pass.result c.may_pass.ensures c.if-not-may_pass.true

pub returns : goal.returns
returns c = IfOk-weaker c.uses_none.result _ _
    (λ answer h. passes_where (top (plan_tree c.args.upper.now)) (top (plan_tree c.args.lower.now))
    c.may_pass.result answer c.may_pass.ensures c.if-not-may_pass.false h) c.uses_none.ensures
