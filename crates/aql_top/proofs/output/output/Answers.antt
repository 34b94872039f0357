use Rattle.aql_top.proofs.Answering.{plan_output, run_output, run_at_most}
use Rattle.aql_top.proofs.output.output.Goals as goal

pub returns-then-settings-clause-output : goal.returns-then-settings-clause-output
returns-then-settings-clause-output g c =
    plan_output c.args.script c.args.settings.now c.in_ok-planned.planned c.in_ok-planned.ensures.ready
    c.if-settings.true (g.G.Engine.entries c.args.engine.now) c.in_ok-explain.field-0.items
    c.in_ok-explain.ensures

pub returns-in_err-run_on-clause-at_most : goal.returns-in_err-run_on-clause-at_most
returns-in_err-run_on-clause-at_most g c =
    run_at_most c.args.script c.args.settings.now c.in_ok-planned.planned c.in_ok-planned.ensures.ready
    c.if-settings.false (g.G.Engine.entries c.args.engine.now) (g.G.Engine.entries c.run_on.new.engine)
    c.in_err-run_on.ensures.at_most

pub returns-clause-output : goal.returns-clause-output
returns-clause-output g c =
    run_output c.args.script c.args.settings.now c.in_ok-planned.planned c.in_ok-planned.ensures.ready
    c.if-settings.false (g.G.Engine.entries c.args.engine.now) (g.G.Engine.entries c.run_on.new.engine)
    c.in_ok-run_on.field-0.items c.in_ok-run_on.ensures.added

pub returns-clause-at_most : goal.returns-clause-at_most
returns-clause-at_most g c =
    run_at_most c.args.script c.args.settings.now c.in_ok-planned.planned c.in_ok-planned.ensures.ready
    c.if-settings.false (g.G.Engine.entries c.args.engine.now) (g.G.Engine.entries c.run_on.new.engine)
    c.in_ok-run_on.ensures.at_most
