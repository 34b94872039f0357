use Rattle.aql_plan.specs.View.{node_tree, plan_tree}
use Rattle.aql_rules_cluster.specs.inner.Walks.{applied, stayed}
use Rattle.aql_rules_cluster.proofs.ShardsFound.{restrict_stays, restrict_made}
use Rattle.aql_rules_cluster.proofs.restrict_to_single_shard.RestrictToSingleShardClusterRule.rewrite.Goals as goal

pub returns-in_default : goal.returns-in_default
returns-in_default c = stayed (λ us. restrict_stays c.args.facts.now (plan_tree c.args.part) us
    (rw c.in_default.is at c.in_ok-foot.ensures))

pub returns : goal.returns
returns c = applied (λ us. restrict_made c.args.facts.now (plan_tree c.args.part) us
    (plan_tree c.set_foot.new.plan) (node_tree c.in-Some.foot) c.requires
    (rw c.in-Some.is at c.in_ok-foot.ensures) c.set_foot.ensures)
