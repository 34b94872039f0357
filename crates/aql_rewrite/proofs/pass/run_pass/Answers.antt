-- Each turn adds one application at the first place.
use Rattle.aql_plan.specs.View.{plan_tree}
use Rattle.aql_rewrite.specs.Places.{at_once}
use Rattle.aql_rewrite.specs.laws.Steps.{refines_through_answers, reaches_more, sets_self, sets_through}
use Rattle.aql_rewrite.proofs.pass.run_pass.Goals as goal

pub loop-step-init : goal.loop-step-init
loop-step-init g c = record {
  reached = at_once;
  refines = λ db meets start vs a. a;
  whole = c.requires;
  sets = sets_self (plan_tree c.args.plan);
}

pub loop-step-preserved : goal.loop-step-preserved
loop-step-preserved g c = record {
  reached = reaches_more _ _ _ _ _ _ c.loop-step.invariant.reached c.if-not-step.false c.in_ok-step.ensures.stepped;
  refines = refines_through_answers c.args.facts.now _ _ _ c.in_ok-step.ensures.refines
      c.loop-step.invariant.refines;
  whole = c.in_ok-step.ensures.whole;
  sets = sets_through (plan_tree c.args.plan) (plan_tree c.loop-step.plan) (plan_tree c.in_ok-step.step.plan)
      c.loop-step.invariant.sets c.in_ok-step.ensures.sets;
}
