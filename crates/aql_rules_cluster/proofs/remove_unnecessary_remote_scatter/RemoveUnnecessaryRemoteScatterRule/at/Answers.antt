use Rattle.std.proofs.Common.{◌∙◌, ap, sym}
use Rattle.aql_plan.specs.View.{plan_tree}
use Rattle.aql_rewrite.specs.View.{above_uses}
use Rattle.aql_rules_cluster.specs.inner.Joinings.{joined_below}
use Rattle.aql_rules_cluster.specs.laws.JoinedPlaces.{made_at, stays}
use Rattle.aql_rules_cluster.proofs.remove_unnecessary_remote_scatter.RemoveUnnecessaryRemoteScatterRule.at.Goals as goal

pub returns-in_default : goal.returns-in_default
returns-in_default c =
    stays c.args.facts.now (above_uses c.args._above.now) (plan_tree c.args.part.now)
    (sym (rw c.in_default.is at c.joining_of.ensures))

pub returns : goal.returns
returns c =
    made_at c.args.facts.now c.requires.2.suits (above_uses c.args._above.now) c.in-Some.shard
    (plan_tree c.args.part.now) (plan_tree c.joined-part.result)
    (sym (rw c.in-Some.is at c.joining_of.ensures))
    (c.joined-part.ensures ∙ ap (joined_below c.in-Some.shard) c.in_ok-copy.ensures)
