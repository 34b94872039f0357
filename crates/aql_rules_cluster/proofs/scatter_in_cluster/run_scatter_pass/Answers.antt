use Rattle.std.specs.Prelude.{Result, Ok, Err, IfOk}
use Rattle.aql_plan.specs.View.{plan_tree}
use Rattle.aql_rules_cluster.specs.laws.Places.{no_place_means_on_shards}
use Rattle.aql_rules_cluster.proofs.scatter_in_cluster.run_scatter_pass.Goals as goal

-- what two facts of a value give
from_both : {T E : Type 0} (P Q S : T → Type 0) → ((x : T) → P x → Q x → S x) → (r : Result T E) → IfOk r P
    → IfOk r Q → IfOk r S
from_both P Q S f (Ok x) h k = f x h k
from_both P Q S f (Err e) h k = tt

pub returns-clause-on_shards : goal.returns-clause-on_shards
returns-clause-on_shards c = from_both _ _ _
    (λ x passed well. (no_place_means_on_shards c.args.facts.now (plan_tree x.plan) well).0 passed.ended)
    c.run_cluster_pass.result c.run_cluster_pass.ensures.passed c.run_cluster_pass.ensures.well_formed
