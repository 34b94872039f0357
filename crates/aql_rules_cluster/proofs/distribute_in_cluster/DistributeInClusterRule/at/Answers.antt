use Rattle.std.proofs.Common.{◌∙◌, ap}
use Rattle.aql_plan.specs.View.{node_tree, plan_tree}
use Rattle.aql_rewrite.specs.View.{above_uses}
use Rattle.aql_rules_cluster.specs.inner.Bottoms.{with_foot}
use Rattle.aql_rules_cluster.specs.laws.DistributePlaces.{stays, made_at}
use Rattle.aql_rules_cluster.proofs.distribute_in_cluster.DistributeInClusterRule.at.Goals as goal

pub returns-in_default : goal.returns-in_default
returns-in_default c =
    stays c.args.facts.now (above_uses c.args._above.now) (plan_tree c.args.part.now)
    (rw c.in_default.is at c.in_ok-foot.ensures)

pub returns : goal.returns
returns c =
    let m = node_tree c.in-Some.foot in
    made_at c.args.facts.now c.requires.2.suits _ (plan_tree c.args.part.now) (plan_tree c.set_foot.new.plan) m
    (rw c.in-Some.is at c.in_ok-foot.ensures) (c.set_foot.ensures ∙ ap (with_foot m) c.in_ok-part.ensures)
