use Rattle.std.proofs.Common.{◌∙◌, ap}
use Rattle.aql_plan.specs.View.{node_tree, plan_tree}
use Rattle.aql_rewrite.specs.View.{above_uses}
use Rattle.aql_rules_cluster.specs.inner.Bottoms.{with_foot}
use Rattle.aql_rules_cluster.proofs.ShardsFound.{restrict_stays, restrict_made}
use Rattle.aql_rules_cluster.proofs.restrict_to_single_shard.RestrictToSingleShardRule.at.Goals as goal

pub returns-in_default : goal.returns-in_default
returns-in_default c =
    restrict_stays c.args.facts.now (plan_tree c.args.part.now) (above_uses c.args._above.now)
    (rw c.in_default.is at c.in_ok-foot.ensures)

pub returns : goal.returns
returns c =
    let m = node_tree c.in-Some.foot in
    restrict_made c.args.facts.now (plan_tree c.args.part.now) _ (plan_tree c.set_foot.new.plan) m
    c.requires.2.suits (rw c.in-Some.is at c.in_ok-foot.ensures)
    (c.set_foot.ensures ∙ ap (with_foot m) c.in_ok-part.ensures)
