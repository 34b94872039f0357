use Rattle.std.proofs.Common.{◌∙◌, sym, subst}
use Rattle.aql_plan.specs.Plan.{Plan}
use Rattle.aql_plan.specs.View.{plan_tree}
use Rattle.aql_rules_cluster.specs.inner.Fragments.{IsMovedBelow}
use Rattle.aql_rules_cluster.specs.laws.FiltercalcPlaces.{made_at, stays}
use Rattle.aql_rules_cluster.proofs.distribute_filtercalc_to_cluster.DistributeFiltercalcToClusterRule.at.Goals as goal

pub returns-then-not-goes_inside : goal.returns-then-not-goes_inside
returns-then-not-goes_inside c =
    stays c.args._facts.now _ (plan_tree c.args.part.now)
    (sym c.goes_inside.ensures ∙ c.if-not-goes_inside.true)

pub returns : goal.returns
returns c =
    let q = plan_tree c.moved_below-part.result in
    made_at c.args._facts.now c.requires.2.suits _ (plan_tree c.args.part.now) q
    (sym c.goes_inside.ensures ∙ c.if-not-goes_inside.false)
    (subst (λ (o : Plan). IsMovedBelow o q) c.in_ok-copy.ensures c.moved_below-part.ensures)
