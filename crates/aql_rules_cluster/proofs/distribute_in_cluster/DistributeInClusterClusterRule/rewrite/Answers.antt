use Rattle.aql_plan.specs.View.{node_tree, plan_tree}
use Rattle.aql_rules_cluster.specs.inner.Walks.{applied, stayed}
use Rattle.aql_rules_cluster.specs.laws.DistributePlaces.{stays, made_at}
use Rattle.aql_rules_cluster.proofs.distribute_in_cluster.DistributeInClusterClusterRule.rewrite.Goals as goal

pub returns-in_default : goal.returns-in_default
returns-in_default c = stayed (λ us. stays c.args.facts.now us (plan_tree c.args.part)
    (rw c.in_default.is at c.in_ok-foot.ensures))

pub returns : goal.returns
returns c = applied (λ us. made_at c.args.facts.now c.requires us (plan_tree c.args.part)
    (plan_tree c.set_foot.new.plan) (node_tree c.in-Some.foot) (rw c.in-Some.is at c.in_ok-foot.ensures)
    c.set_foot.ensures)
