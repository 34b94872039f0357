-- Without servers the rules of a cluster leave each plan as it is, and none of them is told of.
use Rattle.std.proofs.Common.{◌≡◌, ◌∙◌, List, [], ◌∷◌, Bool, true, false, Option, refl, arith}
use Rattle.std.specs.List.{AllByRecursion}
use Rattle.aql_value.specs.laws.Alls.{all_parts}
use Rattle.aql_meaning.specs.Uses.{Uses}
use Rattle.aql_plan.specs.declared.facts.Facts.{Facts}
use Rattle.aql_plan.specs.declared.rules.RuleName.{RuleName}
use Rattle.aql_plan.specs.declared.rules.RuleName.TheVariants as rule
use Rattle.aql_plan.specs.declared.rule_sets.Rules.{Rules}
use Rattle.aql_plan.specs.Plan.{Plan}
use Rattle.aql_rewrite.specs.declared.swap.Rename.{Rename}
use Rattle.aql_rewrite.specs.Places.{Rewriting, First, below, here, body, Reaches, at_once, next}
use Rattle.aql_rules_cluster.specs.ScatterInCluster.{Scatters, enumeration, by_index, in_index_order}
use Rattle.aql_rules_cluster.specs.DistributeInCluster.{Distributes, distributed}
use Rattle.aql_rules_cluster.specs.RestrictToSingleShard.{Restricts, restricted}
use Rattle.aql_rules_cluster.specs.DistributeFiltercalcToCluster.{MovesInside, filter_inside, calculation_inside}
use Rattle.aql_rules_cluster.specs.RemoveUnnecessaryRemoteScatter.{Joins, joined}
use Rattle.aql_rules_cluster.specs.CollectInCluster.{CollectsInside, collected}
use Rattle.aql_rules_cluster.specs.DistributeSortToCluster.{SortsInside, sorted, sorted_first}
use Rattle.aql_opt.specs.Passes.{IsPassOf}
use Rattle.aql_opt.specs.Chosen.{RunsRule, switched_off, unchanged, changed, AfterRules, at_first, and_then, cluster_rules}
use Rattle.aql_opt.specs.Theorems.{NoneWithoutServers}
use Rattle.aql_opt.specs.inner.Later.{is_of_cluster}

-- a rule that has no place leaves each plan as it is
module _ (R : Rewriting) (none : (us : Uses) (p q : Plan) (r : Option Rename) → R us p q r → ⊥) where
  never : {inside : Bool} {us : Uses} {p q : Plan} {r : Option Rename} → First R inside us p q r → ⊥
  never (below h) = never h
  never (here free h) = none _ _ _ _ h
  never (body free stays h) = never h

  left_alone : (p q : Plan) (c : Bool) → Reaches R p q c → (q ≡ p) × (c ≡ false)
  left_alone p _ _ at_once = (refl, refl)
  left_alone p _ _ (next k h) = absurd (never h)

module _ (facts : Facts) (alone : facts.servers ≡ 0) where
  none_scattered : (us : Uses) (p q : Plan) (r : Option Rename) → Scatters facts us p q r → ⊥
  none_scattered us _ _ _ (enumeration servers) = omega (arith, servers, alone)
  none_scattered us _ _ _ (by_index servers) = omega (arith, servers, alone)
  none_scattered us _ _ _ (in_index_order servers) = omega (arith, servers, alone)

  none_distributed : (us : Uses) (p q : Plan) (r : Option Rename) → Distributes facts us p q r → ⊥
  none_distributed us _ _ _ (distributed servers sends above) = omega (arith, servers, alone)

  none_restricted : (us : Uses) (p q : Plan) (r : Option Rename) → Restricts facts us p q r → ⊥
  none_restricted us _ _ _ (restricted servers narrowed above none) = omega (arith, servers, alone)

  none_moved : (us : Uses) (p q : Plan) (r : Option Rename) → MovesInside facts us p q r → ⊥
  none_moved us _ _ _ (filter_inside servers) = omega (arith, servers, alone)
  none_moved us _ _ _ (calculation_inside servers) = omega (arith, servers, alone)

  none_joined : (us : Uses) (p q : Plan) (r : Option Rename) → Joins facts us p q r → ⊥
  none_joined us _ _ _ (joined servers lower upper same reads above) = omega (arith, servers, alone)

  none_collected : (us : Uses) (p q : Plan) (r : Option Rename) → CollectsInside facts us p q r → ⊥
  none_collected us _ _ _ (collected servers) = omega (arith, servers, alone)

  none_sorted : (us : Uses) (p q : Plan) (r : Option Rename) → SortsInside facts us p q r → ⊥
  none_sorted us _ _ _ (sorted servers) = omega (arith, servers, alone)
  none_sorted us _ _ _ (sorted_first servers) = omega (arith, servers, alone)

  idle : (r : RuleName) (p q : Plan) (c : Bool) → is_of_cluster r ≡ true → IsPassOf r facts p q c
      → (q ≡ p) × (c ≡ false)
  idle rule.ScatterInCluster p q c e h = left_alone (Scatters facts) none_scattered p q c h.reached
  idle rule.DistributeInCluster p q c e h = left_alone (Distributes facts) none_distributed p q c h.reached
  idle rule.RestrictToSingleShard p q c e h = left_alone (Restricts facts) none_restricted p q c h.reached
  idle rule.DistributeFiltercalcToCluster p q c e h = left_alone (MovesInside facts) none_moved p q c h.reached
  idle rule.RemoveUnnecessaryRemoteScatter p q c e h = left_alone (Joins facts) none_joined p q c h.reached
  idle rule.CollectInCluster p q c e h = left_alone (CollectsInside facts) none_collected p q c h.reached
  idle rule.DistributeSortToCluster p q c e h = left_alone (SortsInside facts) none_sorted p q c h.reached
  idle r p q c e h = absurd (cc)

  module _ (rules : Rules) where
    idle_turn : (r : RuleName) (q s : Plan) (applied more : List RuleName) → is_of_cluster r ≡ true
        → RunsRule facts rules r q applied s more → (s ≡ q) × (more ≡ applied)
    idle_turn r q _ applied _ e (switched_off off) = (refl, refl)
    idle_turn r q s applied _ e (unchanged on h) = ((idle r q s false e h).0, refl)
    idle_turn r q s applied _ e (changed on h) =
        let told : true ≡ false = (idle r q s true e h).1 in absurd (cc)

    idle_turns : (p q : Plan) (rs applied : List RuleName)
        → AllByRecursion (λ (r : RuleName). is_of_cluster r ≡ true) rs → AfterRules facts rules p rs q applied
        → (q ≡ p) × (applied ≡ [])
    idle_turns p _ _ _ all at_first = (refl, refl)
    idle_turns p q _ applied all (and_then {rs = rs} {applied = most} {r = r} {q = m} k t) =
        let parts = all_parts (λ (x : RuleName). is_of_cluster x ≡ true) rs (r ∷ []) all in
        let before = idle_turns p m rs most parts.0 k in
        let turn = idle_turn r m q most applied parts.1.0 t in (turn.0 ∙ before.0, turn.1 ∙ before.1)

pub none_without_servers : NoneWithoutServers
none_without_servers facts rules p q applied alone h =
    idle_turns facts alone rules p q cluster_rules applied
    (refl, (refl, (refl, (refl, (refl, (refl, (refl, tt))))))) h
