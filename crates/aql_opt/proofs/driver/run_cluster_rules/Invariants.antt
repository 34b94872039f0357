use Rattle.std.proofs.Common.{◌≡◌, ◌≤◌, [], take}
use Rattle.aql_plan.specs.Refines.{Refines}
use Rattle.aql_plan.specs.View.{plan_tree}
use Rattle.aql_plan.specs.WellFormed.{IsWellFormed}
use Rattle.aql_rewrite.specs.Swaps.{SetsNoMore}
use Rattle.aql_rules_cluster.specs.OnShards.{ReadsOnShards}
use Rattle.aql_opt.specs.Chosen.{AfterRules, cluster_rules}
use Rattle.aql_opt.proofs.driver.run_cluster_rules.Given as goal

abbrev pub invariant-loop-rule : goal.invariant-loop-rule
invariant-loop-rule l = record {
  runs : AfterRules l.facts l.rules (plan_tree l.fn.plan) (take l.rule-index cluster_rules)
      (plan_tree l.rewritten.plan) l.rewritten.applied;
  refines : Refines l.facts (plan_tree l.rewritten.plan) (plan_tree l.fn.plan);
  well_formed : IsWellFormed l.facts [] (plan_tree l.rewritten.plan);
  sets : SetsNoMore (plan_tree l.fn.plan) (plan_tree l.rewritten.plan);
  on_shards : 1 ≤ l.rule-index → ReadsOnShards l.facts (plan_tree l.rewritten.plan);
  alone : l.facts.servers ≡ 0 → plan_tree l.rewritten.plan ≡ plan_tree l.fn.plan;
}
