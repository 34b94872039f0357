use Rattle.std.proofs.Common.{sym}
use Rattle.std.proofs.lemmas.Result.{IfOk-weaker}
use Rattle.aql_plan.specs.View.{plan_tree}
use Rattle.aql_rules_cluster.specs.inner.Gathers.{gathering_tree}
use Rattle.aql_rules_cluster.specs.inner.Walks.{applied, stayed}
use Rattle.aql_rules_cluster.specs.laws.Places.{stays, made_at}
use Rattle.aql_rules_cluster.proofs.scatter_in_cluster.ScatterInClusterClusterRule.rewrite.Goals as goal

pub returns-in_default : goal.returns-in_default
returns-in_default c = stayed (λ us. stays c.args.facts.now us (plan_tree c.args.part)
    (sym (rw c.in_default.is at c.in_ok-gathering.ensures)))

pub returns : goal.returns
returns c = IfOk-weaker c.on_all_shards.result _ _
    (λ o h. applied (λ us. made_at c.args.facts.now c.requires us (plan_tree c.args.part) (plan_tree o)
    (gathering_tree c.in-Some.gathering) (sym (rw c.in-Some.is at c.in_ok-gathering.ensures)) h))
    c.on_all_shards.ensures
