use Rattle.aql_plan.specs.declared.plan.Plan.{Plan}
use Rattle.aql_plan.specs.View.{plan_tree}
use Rattle.aql_rules_cluster.specs.OnShards.{ReadsOnShards}
use Rattle.aql_opt.specs.Chosen.{switched_off}
use Rattle.aql_opt.specs.declared.driver.Rewritten.{Rewritten}
use Rattle.aql_opt.proofs.Returned.{has_plan}
use Rattle.aql_opt.proofs.driver.run_cluster_rule.Goals as goal

pub returns-then-not-is_enabled-clause-runs : goal.returns-then-not-is_enabled-clause-runs
returns-then-not-is_enabled-clause-runs c = switched_off (λ on. (
    let found = c.is_enabled.ensures.1 on in
    let lacking = c.if-not-is_enabled.true in absurd (cc)))

pub returns-clause-on_shards : goal.returns-clause-on_shards
returns-clause-on_shards c =
    has_plan _ (λ (x : Rewritten). x.plan) (λ (p : Plan). ReadsOnShards c.args.facts.now (plan_tree p))
    c.in_ok-passed.passed.plan c.with_rule.result c.with_rule.ensures.plan c.in_ok-passed.ensures.on_shards
