use Rattle.std.proofs.Common.{◌≡◌, false, rules}
use Rattle.aql_plan.specs.declared.rules.RuleName.{RuleName}
use Rattle.aql_plan.specs.View.{plan_tree}
use Rattle.aql_rewrite.specs.laws.Steps.{refines_through_answers, sets_self, sets_through}
use Rattle.aql_opt.specs.inner.Later.{is_of_cluster}
use Rattle.aql_opt.specs.laws.ClusterTurns.{rule_at}
use Rattle.aql_opt.specs.laws.Turns.{first_told, one_more, refines_itself}
use Rattle.aql_opt.proofs.driver.run_rules.Goals as goal

pub run_rule-requires-clause-local : goal.run_rule-requires-clause-local
run_rule-requires-clause-local c =
    rule_at (λ (r : RuleName). is_of_cluster r ≡ false) c.args.order.now c.loop-rule.rule-index _
    c.loop-rule-test.true (search rules) c.requires.local

pub loop-rule-init : goal.loop-rule-init
loop-rule-init c = record {
  runs = first_told c.args.facts.now c.args.rules.now (plan_tree c.args.plan) c.new.result c.new.ensures;
  refines = refines_itself c.args.facts.now (plan_tree c.args.plan);
  whole = c.requires.whole;
  sets = sets_self (plan_tree c.args.plan);
}

pub loop-rule-preserved : goal.loop-rule-preserved
loop-rule-preserved c = record {
  runs = one_more c.args.facts.now c.args.rules.now (plan_tree c.args.plan)
      (plan_tree c.loop-rule.rewritten.plan) (plan_tree c.in_ok-rewritten.rewritten.plan)
      c.loop-rule.rewritten.applied c.in_ok-rewritten.rewritten.applied c.args.order.now
      c.loop-rule.rule-index _ c.loop-rule-test.true (search rules)
      c.loop-rule.invariant.runs c.in_ok-rewritten.ensures.runs;
  refines = refines_through_answers c.args.facts.now _ _ _ c.in_ok-rewritten.ensures.refines
      c.loop-rule.invariant.refines;
  whole = c.in_ok-rewritten.ensures.whole;
  sets = sets_through (plan_tree c.args.plan) (plan_tree c.loop-rule.rewritten.plan)
      (plan_tree c.in_ok-rewritten.rewritten.plan) c.loop-rule.invariant.sets c.in_ok-rewritten.ensures.sets;
}
