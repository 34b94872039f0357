use Rattle.std.proofs.Common.{sym}
use Rattle.std.proofs.lemmas.Result.{IfOk-weaker}
use Rattle.aql_plan.specs.View.{plan_tree}
use Rattle.aql_rules_cluster.specs.inner.Groupings.{grouping_tree}
use Rattle.aql_rules_cluster.specs.inner.Walks.{applied, stayed}
use Rattle.aql_rules_cluster.specs.laws.CollectPlaces.{stays, made_at}
use Rattle.aql_rules_cluster.proofs.collect_in_cluster.CollectInClusterClusterRule.rewrite.Goals as goal

pub returns-in_default : goal.returns-in_default
returns-in_default c = stayed (λ us. stays c.args._facts.now us (plan_tree c.args.part)
    (sym (rw c.in_default.is at c.in_ok-grouping.ensures)))

pub returns : goal.returns
returns c = IfOk-weaker c.grouped_inside.result _ _
    (λ o h. applied (λ us. made_at c.args._facts.now c.requires us (plan_tree c.args.part) (plan_tree o)
    (grouping_tree c.in-Some.grouping) (sym (rw c.in-Some.is at c.in_ok-grouping.ensures)) h))
    c.grouped_inside.ensures
