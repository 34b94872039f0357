-- Rules of a cluster that run after others.
use Rattle.std.proofs.Common.{◌≡◌, zero, suc, ◌<◌, ◌≤◌, ℕ, List, [], ◌∷◌, ◌++◌, ◌⊎◌, inl, inr, length, get_or, sym, subst, append_assoc, append-nil, arith}
use Rattle.std.specs.List.{AllByRecursion}
use Rattle.aql_plan.specs.declared.facts.Facts.{Facts}
use Rattle.aql_plan.specs.declared.rules.RuleName.{RuleName}
use Rattle.aql_plan.specs.declared.rules.RuleName.TheVariants as rule
use Rattle.aql_plan.specs.Plan.{Plan}
use Rattle.aql_plan.specs.declared.rule_sets.Rules.{Rules}
use Rattle.aql_rules_cluster.specs.OnShards.{ReadsOnShards}
use Rattle.aql_opt.specs.Chosen.{RunsRule, switched_off, unchanged, changed, AfterRules, at_first, and_then, cluster_rules}

-- all of a list at an index
pub rule_at : (P : RuleName → Type 0) (order : List RuleName) (i : ℕ) (r : RuleName) → i < length order
    → r ≡ get_or order i r → AllByRecursion P order → P r
rule_at P [] i r within here h = absurd (omega (arith, within))
rule_at P (x ∷ order) zero r within here h = subst P (sym here) h.0
rule_at P (x ∷ order) (suc i) r within here h = rule_at P order i r (omega (arith, within)) here h.1

-- the first rule of a cluster is scatter-in-cluster, and the others keep what it gives
pub scattered_more : (facts : Facts) (q s : Plan) (i : ℕ) (r : RuleName) → r ≡ get_or cluster_rules i r
    → (1 ≤ i → ReadsOnShards facts q)
    → ((r ≡ rule.ScatterInCluster) ⊎ ReadsOnShards facts q → ReadsOnShards facts s) → ReadsOnShards facts s
scattered_more facts q s zero r here h k = k (inl here)
scattered_more facts q s (suc i) r here h k = k (inr (h (omega arith)))

module _ (facts : Facts) (rules : Rules) where
  joined_turn : (r : RuleName) (q s : Plan) (front applied more : List RuleName)
      → RunsRule facts rules r q applied s more
      → RunsRule facts rules r q (front ++ applied) s (front ++ more)
  joined_turn r q _ front applied _ (switched_off off) = switched_off off
  joined_turn r q s front applied _ (unchanged on h) = unchanged on h
  joined_turn r q s front applied _ (changed on h) =
      subst (λ (names : List RuleName). RunsRule facts rules r q (front ++ applied) s names)
      (append_assoc front applied (r ∷ [])) (changed on h)

  -- rules after rules
  pub joined : (p q s : Plan) (rs later applied more : List RuleName) → AfterRules facts rules p rs q applied
      → AfterRules facts rules q later s more → AfterRules facts rules p (rs ++ later) s (applied ++ more)
  joined p q _ rs _ applied _ h at_first =
      subst (λ (order : List RuleName). AfterRules facts rules p order q (applied ++ []))
      (sym (append-nil rs))
      (subst (λ (names : List RuleName). AfterRules facts rules p rs q names) (sym (append-nil applied)) h)
  joined p q s rs _ applied more h (and_then {rs = ss} {applied = most} {r = r} {q = m} k t) =
      subst (λ (order : List RuleName). AfterRules facts rules p order s (applied ++ more))
      (append_assoc rs ss (r ∷ [])) (and_then (joined p q m rs ss applied most h k)
      (joined_turn r m s applied most more t))
