use Rattle.std.proofs.Common.{◌∙◌, sym}
use Rattle.aql_plan.specs.View.{plan_tree}
use Rattle.aql_rules_cluster.specs.inner.Walks.{applied, stayed}
use Rattle.aql_rules_cluster.specs.laws.FiltercalcPlaces.{made_at, stays}
use Rattle.aql_rules_cluster.proofs.distribute_filtercalc_to_cluster.DistributeFiltercalcToClusterClusterRule.rewrite.Goals as goal

pub returns-then-not-goes_inside : goal.returns-then-not-goes_inside
returns-then-not-goes_inside c = stayed (λ us. stays c.args._facts.now us (plan_tree c.args.part)
    (sym c.goes_inside.ensures ∙ c.if-not-goes_inside.true))

pub returns : goal.returns
returns c = applied (λ us. made_at c.args._facts.now c.requires us (plan_tree c.args.part)
    (plan_tree c.moved_below.result) (sym c.goes_inside.ensures ∙ c.if-not-goes_inside.false)
    c.moved_below.ensures)
