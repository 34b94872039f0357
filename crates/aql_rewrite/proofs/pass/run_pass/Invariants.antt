use Rattle.aql_plan.specs.Refines.{Refines}
use Rattle.aql_plan.specs.View.{plan_tree}
use Rattle.aql_rewrite.specs.Places.{Reaches}
use Rattle.aql_rewrite.specs.Placed.{IsWhole}
use Rattle.aql_rewrite.specs.Swaps.{SetsNoMore}
use Rattle.aql_rewrite.proofs.pass.run_pass.Given as goal

abbrev pub invariant-loop-step : goal.invariant-loop-step
invariant-loop-step g l = record {
  reached : Reaches (g.R.Rule.rewrites l.rule l.facts) (plan_tree l.fn.plan) (plan_tree l.plan) l.changed;
  refines : Refines l.facts (plan_tree l.plan) (plan_tree l.fn.plan);
  whole : IsWhole (g.R.Rule.fragments l.rule) l.facts (plan_tree l.plan);
  sets : SetsNoMore (plan_tree l.fn.plan) (plan_tree l.plan);
}

abbrev pub decreases-loop-step : goal.decreases-loop-step
decreases-loop-step g l = g.R.Rule.measure l.rule (plan_tree l.plan)
