use Rattle.std.proofs.Common.{sym, subst}
use Rattle.aql_plan.specs.Plan.{Plan}
use Rattle.aql_plan.specs.View.{plan_tree}
use Rattle.aql_rewrite.specs.View.{above_uses}
use Rattle.aql_rules_cluster.specs.inner.Groupings.{grouping_tree, IsGroupedInside}
use Rattle.aql_rules_cluster.specs.laws.CollectPlaces.{stays, made_at}
use Rattle.aql_rules_cluster.proofs.collect_in_cluster.CollectInClusterRule.at.Goals as goal

pub returns : goal.returns
returns c =
    let g = grouping_tree c.in-Some.grouping in
    let q = plan_tree c.in_ok-part-2.part in
    made_at c.args._facts.now c.requires.2.suits _ (plan_tree c.args.part.now) q g
    (sym (rw c.in-Some.is at c.in_ok-grouping.ensures))
    (subst (λ (o : Plan). IsGroupedInside g o q) c.in_ok-part.ensures c.in_ok-part-2.ensures)

pub returns-in_default : goal.returns-in_default
returns-in_default c =
    stays c.args._facts.now (above_uses c.args._above.now) (plan_tree c.args.part.now)
    (sym (rw c.in_default.is at c.in_ok-grouping.ensures))
