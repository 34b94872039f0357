use Rattle.std.proofs.Common.{◌≤◌, arith}
use Rattle.aql_plan.specs.View.{plan_tree}
use Rattle.aql_rules_cluster.specs.laws.Passes.{alone_passes, walked_passes}
use Rattle.aql_rules_cluster.proofs.cluster_pass.run_cluster_pass.Goals as goal

pub returns-then-not-has_server-clause-passed : goal.returns-then-not-has_server-clause-passed
returns-then-not-has_server-clause-passed g c =
    let facts = c.args.facts.now in
    (alone_passes facts (g.R.Rule.rewrites c.args.rule.now facts)
    (g.met.R.ClusterRule.for_cluster c.args.rule.now facts)
    (c.has_server.ensures.alone c.if-not-has_server.true) (plan_tree c.args.plan) c.requires).passed

pub returns : goal.returns
returns g c =
    let facts = c.args.facts.now in
    let servers : 1 ≤ facts.servers = c.has_server.ensures.there c.if-not-has_server.false in
    let k = walked_passes facts (g.R.Rule.rewrites c.args.rule.now facts)
    (g.met.R.ClusterRule.for_cluster c.args.rule.now facts) servers (plan_tree c.args.plan)
    (plan_tree c.in_ok-plan.plan) c.walk.new.changed c.requires c.in_ok-plan.ensures in record {
      passed = k.passed;
      refines = k.refines;
      well_formed = k.well_formed;
      sets = k.sets;
      on_shards = k.on_shards;
      alone = λ e. absurd (omega (arith, servers, e));
    }
