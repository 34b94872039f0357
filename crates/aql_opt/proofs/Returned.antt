-- What holds of a value that was returned, as long as it reads on shards alone.
use Rattle.std.proofs.Common.{◌≡◌, ◌⊎◌, inl, inr, sym, subst}
use Rattle.std.specs.Prelude.{Result, Ok, Err, IfOk}
use Rattle.aql_plan.specs.declared.rules.RuleName.{RuleName}
use Rattle.aql_plan.specs.declared.rules.RuleName.TheVariants as rule

-- of a rule that is another than scatter-in-cluster
pub other_rule : {T E : Type 0} (A : Type 0) (P : T → Type 0) (r : RuleName) (result : Result T E)
    → (r ≡ rule.ScatterInCluster → ⊥) → IfOk result (λ x. A → P x)
    → IfOk result (λ x. (r ≡ rule.ScatterInCluster) ⊎ A → P x)
other_rule A P r (Ok x) other h = λ k. by k
  where
    by : (r ≡ rule.ScatterInCluster) ⊎ A → P x
    by (inl e) = absurd (other e)
    by (inr a) = h a
other_rule A P r (Err e) other h = tt

-- of a value that has a plan, what holds of that plan
pub has_plan : {T E P : Type 0} (A : Type 0) (plan : T → P) (K : P → Type 0) (p : P) (result : Result T E)
    → IfOk result (λ x. plan x ≡ p) → (A → K p) → IfOk result (λ x. A → K (plan x))
has_plan A plan K p (Ok x) e f = λ a. subst K (sym e) (f a)
has_plan A plan K p (Err x) e f = tt
