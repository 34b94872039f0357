-- What is chosen of the candidates for the plan after the first passes.
use Rattle.std.proofs.Common.{◌∙◌, ◌++◌, ap}
use Rattle.aql_plan.specs.View.{plan_tree}
use Rattle.aql_rewrite.specs.laws.Steps.{refines_through_answers, sets_through}
use Rattle.aql_opt.specs.laws.Cheapest.{chosen_named}
use Rattle.aql_opt.proofs.driver.optimise.Goals as goal

pub returns-clause-chosen : goal.returns-clause-chosen
returns-clause-chosen c =
    let first = c.in_ok-plan.field-0 in
    let chosen = c.in_ok-chosen.chosen in
    let found = c.in_ok-chosen.ensures.best in
    chosen_named c.args.facts.now c.args.rules.now (plan_tree c.args.plan) (plan_tree first.plan)
    (plan_tree chosen.plan) first.applied chosen.applied chosen.reordered c.in_ok-plan.ensures.runs found.0
    found.1 found.2 c.in_ok-applied.applied c.add_names.new.to c.in_ok-applied.ensures
    (c.in_ok-add_names.ensures ∙ ap (λ xs. c.in_ok-applied.applied ++ xs) c.as_slice.ensures)

pub returns-clause-cost : goal.returns-clause-cost
returns-clause-cost c = c.in_ok-chosen.ensures.cost

pub returns-clause-refines : goal.returns-clause-refines
returns-clause-refines c = refines_through_answers c.args.facts.now (plan_tree c.args.plan)
    (plan_tree c.in_ok-plan.field-0.plan) (plan_tree c.in_ok-chosen.chosen.plan)
    c.in_ok-chosen.ensures.finished.refines c.in_ok-plan.ensures.refines

pub returns-clause-well_formed : goal.returns-clause-well_formed
returns-clause-well_formed c = c.in_ok-chosen.ensures.finished.well_formed

pub returns-clause-on_shards : goal.returns-clause-on_shards
returns-clause-on_shards c = c.in_ok-chosen.ensures.finished.on_shards

pub returns-clause-alone : goal.returns-clause-alone
returns-clause-alone c = c.in_ok-chosen.ensures.finished.alone

pub returns-clause-sets : goal.returns-clause-sets
returns-clause-sets c = sets_through (plan_tree c.args.plan) (plan_tree c.in_ok-plan.field-0.plan)
    (plan_tree c.in_ok-chosen.chosen.plan) c.in_ok-plan.ensures.sets c.in_ok-chosen.ensures.finished.sets
