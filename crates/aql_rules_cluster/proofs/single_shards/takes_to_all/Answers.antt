use Rattle.aql_plan.specs.Plan.{top}
use Rattle.aql_plan.specs.View.{node_tree, plan_tree}
use Rattle.aql_rules_cluster.specs.inner.SingleShards.{sending_view}
use Rattle.aql_rules_cluster.proofs.ShardsFound.{all_taken, sent_taken}
use Rattle.aql_rules_cluster.proofs.single_shards.takes_to_all.Goals as goal

pub returns-in-Some : goal.returns-in-Some
returns-in-Some c = all_taken c.args.facts.now (node_tree c.args.lowest.now) (top (plan_tree c.args.foot.now))
    c.in-Some.coll.0 c.in-Some.ensures

pub returns-then-branch : goal.returns-then-branch
returns-then-branch c = sent_taken c.args.facts.now (node_tree c.args.lowest.now)
    (top (plan_tree c.args.foot.now)) (sending_view c.in-Some-distribution.sent)
    c.in-Some-distribution.ensures (c.in_ok-are_key_items.ensures.0 c.if-branch.true)
