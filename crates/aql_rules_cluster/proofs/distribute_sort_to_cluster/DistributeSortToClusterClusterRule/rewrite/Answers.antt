use Rattle.std.proofs.Common.{sym}
use Rattle.std.proofs.lemmas.Result.{IfOk-weaker}
use Rattle.aql_plan.specs.View.{plan_tree}
use Rattle.aql_rules_cluster.specs.inner.Sortings.{sorting_tree}
use Rattle.aql_rules_cluster.specs.inner.Walks.{applied, stayed}
use Rattle.aql_rules_cluster.specs.laws.SortPlaces.{stays, made_at}
use Rattle.aql_rules_cluster.proofs.distribute_sort_to_cluster.DistributeSortToClusterClusterRule.rewrite.Goals as goal

pub returns-in_default : goal.returns-in_default
returns-in_default c = stayed (λ us. stays c.args._facts.now us (plan_tree c.args.part)
    (sym (rw c.in_default.is at c.in_ok-sorting.ensures)))

pub returns : goal.returns
returns c = IfOk-weaker c.sorted_inside.result _ _
    (λ o h. applied (λ us. made_at c.args._facts.now c.requires us (plan_tree c.args.part) (plan_tree o)
    (sorting_tree c.in-Some.sorting) (sym (rw c.in-Some.is at c.in_ok-sorting.ensures)) h))
    c.sorted_inside.ensures
