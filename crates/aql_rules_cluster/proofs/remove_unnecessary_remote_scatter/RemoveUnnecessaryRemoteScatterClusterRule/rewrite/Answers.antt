use Rattle.std.proofs.Common.{sym}
use Rattle.aql_plan.specs.View.{plan_tree}
use Rattle.aql_rules_cluster.specs.inner.Walks.{applied, stayed}
use Rattle.aql_rules_cluster.specs.laws.JoinedPlaces.{made_at, stays}
use Rattle.aql_rules_cluster.proofs.remove_unnecessary_remote_scatter.RemoveUnnecessaryRemoteScatterClusterRule.rewrite.Goals as goal

pub returns-in_default : goal.returns-in_default
returns-in_default c = stayed (λ us. stays c.args.facts.now us (plan_tree c.args.part)
    (sym (rw c.in_default.is at c.joining_of.ensures)))

pub returns : goal.returns
returns c = applied (λ us. made_at c.args.facts.now c.requires us c.in-Some.shard (plan_tree c.args.part)
    (plan_tree c.joined.result) (sym (rw c.in-Some.is at c.joining_of.ensures)) c.joined.ensures)
