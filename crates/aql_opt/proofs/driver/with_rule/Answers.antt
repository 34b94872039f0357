use Rattle.aql_plan.specs.View.{plan_tree}
use Rattle.aql_opt.specs.laws.Turns.{turn_changed, turn_unchanged}
use Rattle.aql_opt.proofs.driver.with_rule.Goals as goal

pub returns-then-changed-clause-runs : goal.returns-then-changed-clause-runs
returns-then-changed-clause-runs c = λ facts rules p on pass. turn_changed facts rules c.args.rule p
    (plan_tree c.args.passed.plan) c.args.applied c.push.new.self c.args.passed.changed on pass
    c.if-changed.true c.in_ok-push.ensures.ok

pub returns-clause-runs : goal.returns-clause-runs
returns-clause-runs c = λ facts rules p on pass. turn_unchanged facts rules c.args.rule p
    (plan_tree c.args.passed.plan) c.args.applied c.args.passed.changed on pass c.if-changed.false
