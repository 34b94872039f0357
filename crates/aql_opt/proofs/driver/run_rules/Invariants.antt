use Rattle.std.proofs.Common.{false, take}
use Rattle.aql_plan.specs.Refines.{Refines}
use Rattle.aql_plan.specs.View.{plan_tree}
use Rattle.aql_rewrite.specs.Placed.{IsWhole}
use Rattle.aql_rewrite.specs.Swaps.{SetsNoMore}
use Rattle.aql_opt.specs.Chosen.{AfterRules}
use Rattle.aql_opt.proofs.driver.run_rules.Given as goal

abbrev pub invariant-loop-rule : goal.invariant-loop-rule
invariant-loop-rule l = record {
  runs : AfterRules l.facts l.rules (plan_tree l.fn.plan) (take l.rule-index l.order)
      (plan_tree l.rewritten.plan) l.rewritten.applied;
  refines : Refines l.facts (plan_tree l.rewritten.plan) (plan_tree l.fn.plan);
  whole : IsWhole false l.facts (plan_tree l.rewritten.plan);
  sets : SetsNoMore (plan_tree l.fn.plan) (plan_tree l.rewritten.plan);
}
