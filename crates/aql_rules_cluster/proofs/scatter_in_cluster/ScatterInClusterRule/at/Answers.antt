use Rattle.std.proofs.Common.{sym, subst}
use Rattle.aql_plan.specs.Plan.{Plan}
use Rattle.aql_plan.specs.View.{plan_tree}
use Rattle.aql_rules_cluster.specs.inner.Gathers.{gathering_tree, IsOnAllShards}
use Rattle.aql_rules_cluster.specs.laws.Places.{made_at}
use Rattle.aql_rules_cluster.proofs.scatter_in_cluster.ScatterInClusterRule.at.Goals as goal

pub returns : goal.returns
returns c =
    let g = gathering_tree c.in-Some.gathering in
    let q = plan_tree c.in_ok-part-2.part in
    made_at c.args.facts.now c.requires.2.suits _ (plan_tree c.args.part.now) q g
    (sym (rw c.in-Some.is at c.in_ok-gathering.ensures))
    (subst (λ (o : Plan). IsOnAllShards g o q) c.in_ok-part.ensures c.in_ok-part-2.ensures)
