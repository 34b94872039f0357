use Rattle.std.proofs.Common.{◌≡◌, ◌∙◌, true, rules, refl, arith}
use Rattle.aql_plan.specs.declared.rules.RuleName.{RuleName}
use Rattle.aql_plan.specs.View.{plan_tree}
use Rattle.aql_rewrite.specs.laws.Steps.{refines_through_answers, sets_self, sets_through}
use Rattle.aql_opt.specs.Chosen.{cluster_rules}
use Rattle.aql_opt.specs.inner.Later.{is_of_cluster}
use Rattle.aql_opt.specs.laws.ClusterTurns.{rule_at, scattered_more}
use Rattle.aql_opt.specs.laws.Turns.{first_told, one_more, refines_itself}
use Rattle.aql_opt.proofs.driver.run_cluster_rules.Goals as goal

pub run_cluster_rule-requires-clause-cluster : goal.run_cluster_rule-requires-clause-cluster
run_cluster_rule-requires-clause-cluster c =
    rule_at (λ (r : RuleName). is_of_cluster r ≡ true) cluster_rules c.loop-rule.rule-index _
    c.loop-rule-test.true (search rules) (search rules)

pub loop-rule-init : goal.loop-rule-init
loop-rule-init c = record {
  runs = first_told c.args.facts.now c.args.rules.now (plan_tree c.args.plan) c.new.result c.new.ensures;
  refines = refines_itself c.args.facts.now (plan_tree c.args.plan);
  well_formed = c.requires;
  sets = sets_self (plan_tree c.args.plan);
  on_shards = λ some. absurd (omega (arith, some));
  alone = λ servers. refl;
}

pub loop-rule-preserved : goal.loop-rule-preserved
loop-rule-preserved c =
    let facts = c.args.facts.now in
    let before = plan_tree c.loop-rule.rewritten.plan in
    let after = plan_tree c.in_ok-rewritten.rewritten.plan in
    let kept = c.loop-rule.invariant in
    let ran = c.in_ok-rewritten.ensures in record {
      runs = one_more facts c.args.rules.now (plan_tree c.args.plan) before after
          c.loop-rule.rewritten.applied c.in_ok-rewritten.rewritten.applied cluster_rules
          c.loop-rule.rule-index _ c.loop-rule-test.true (search rules) kept.runs ran.runs;
      refines = refines_through_answers facts _ _ _ ran.refines kept.refines;
      well_formed = ran.well_formed;
      sets = sets_through (plan_tree c.args.plan) before after kept.sets ran.sets;
      on_shards = λ some. scattered_more facts before after c.loop-rule.rule-index _ (search rules)
          kept.on_shards ran.on_shards;
      alone = λ servers. ran.alone servers ∙ kept.alone servers;
    }
