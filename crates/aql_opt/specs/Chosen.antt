-- The plan that the optimiser chooses (Execution and performance: optimizing queries): the passes of the
-- rules run in their order, each once; those that are switched off are left out. Where there is a server,
-- scatter-in-cluster (Cluster: query execution) can't be switched off. After the first passes there may be
-- several candidates, the orders of a run of loops. Each of them goes through the later passes, the last of
-- which are those of a cluster, and the cheapest one is chosen, of equally cheap ones the first. The names of
-- the rules whose passes changed the chosen plan are listed, in the order of the passes.
use Rattle.std.specs.Prelude.{ℕ, ◌≡◌, ◌<◌, ◌≤◌, ◌⊎◌, List, [], ◌∷◌, ◌++◌, true, false}
use Rattle.std.specs.List.{AllZip, AllByRecursion}
use Rattle.aql_plan.specs.declared.facts.Facts.{Facts}
use Rattle.aql_plan.specs.declared.rules.RuleName.{RuleName}
use Rattle.aql_plan.specs.declared.rules.RuleName.TheVariants as rule
use Rattle.aql_plan.specs.Plan.{Plan}
use Rattle.aql_rules_order.specs.InterchangeAdjacentEnumerations.{Candidates}
use Rattle.aql_plan.specs.declared.rule_sets.Rules.{Rules}
use Rattle.aql_opt.specs.Estimate.{estimate}
use Rattle.aql_plan.specs.RuleSets.{Has}
use Rattle.aql_opt.specs.Passes.{IsPassOf}

-- ---- passes

-- those that run before there are candidates
abbrev pub first_rules : List RuleName
first_rules = rule.SimplifyConditions ∷ rule.InlineSubqueries ∷ []

-- those that run over each candidate, first these, and then those of a cluster
abbrev pub local_rules : List RuleName
local_rules = rule.MoveCalculationsUp ∷ rule.MoveFiltersUp ∷ rule.RemoveRedundantCalculations
    ∷ rule.RemoveUnnecessaryFilters ∷ rule.RemoveUnnecessaryCalculations ∷ rule.RemoveRedundantSorts
    ∷ rule.RemoveCollectVariables ∷ rule.ReplaceOrWithIn ∷ rule.FuseFilters ∷ rule.OptimizeTraversals
    ∷ rule.UseIndexes ∷ rule.RemoveFilterCoveredByIndex ∷ rule.UseIndexForSort ∷ rule.SortLimit
    ∷ rule.MoveFiltersIntoEnumerate ∷ rule.ReduceExtractionToProjection ∷ []

abbrev pub cluster_rules : List RuleName
cluster_rules = rule.ScatterInCluster ∷ rule.DistributeInCluster ∷ rule.RestrictToSingleShard
    ∷ rule.DistributeFiltercalcToCluster ∷ rule.RemoveUnnecessaryRemoteScatter ∷ rule.CollectInCluster
    ∷ rule.DistributeSortToCluster ∷ []

abbrev pub later_rules : List RuleName
later_rules = local_rules ++ cluster_rules

-- a rule is enabled where it is switched on, scatter-in-cluster also where there is a server
abbrev pub IsEnabled : Facts → Rules → RuleName → Type 0
IsEnabled facts rules r = Has rules r ⊎ ((r ≡ rule.ScatterInCluster) × (1 ≤ facts.servers))

-- the run of one rule, by the plan and the rules that changed it, before it and after it
pub data RunsRule (facts : Facts) (rules : Rules) (r : RuleName)
    : Plan → List RuleName → Plan → List RuleName → Type 0 where
  switched_off : {q : Plan} {applied : List RuleName} → (IsEnabled facts rules r → ⊥)
      → RunsRule facts rules r q applied q applied
  unchanged : {q s : Plan} {applied : List RuleName} → IsEnabled facts rules r → IsPassOf r facts q s false
      → RunsRule facts rules r q applied s applied
  changed : {q s : Plan} {applied : List RuleName} → IsEnabled facts rules r → IsPassOf r facts q s true
      → RunsRule facts rules r q applied s (applied ++ r ∷ [])

-- these rules, run one after another, make q of p, and these of them changed it
pub data AfterRules (facts : Facts) (rules : Rules) (p : Plan)
    : List RuleName → Plan → List RuleName → Type 0 where
  at_first : AfterRules facts rules p [] p []
  and_then : {rs applied more : List RuleName} {r : RuleName} {q s : Plan}
      → AfterRules facts rules p rs q applied
      → RunsRule facts rules r q applied s more → AfterRules facts rules p (rs ++ r ∷ []) s more

-- ---- candidates

-- those of the rule interchange-adjacent-enumerations; where this is switched off, the plan alone
pub data CandidatesBy (rules : Rules) (p : Plan) : List Plan → Type 0 where
  alone : (Has rules rule.InterchangeAdjacentEnumerations → ⊥) → CandidatesBy rules p (p ∷ [])
  interchanged : {cs : List Plan} → Has rules rule.InterchangeAdjacentEnumerations → Candidates p cs
      → CandidatesBy rules p cs

-- what the later passes make of a candidate, and which of them changed it
pub record Ended : Type 0 where
  pub plan : Plan
  pub applied : List RuleName

-- the estimate of what a plan costs
abbrev pub cost_of : Facts → Plan → ℕ
cost_of facts p = (estimate facts p).cost

module _ (facts : Facts) (rules : Rules) where
  abbrev pub EndsAs : Plan → Ended → Type 0
  EndsAs c e = AfterRules facts rules c later_rules e.plan e.applied

  -- of the candidates this one is chosen: those before it end dearer, and those after it no cheaper
  pub record IsCheapest (candidates : List Plan) (before : List Ended) (chosen : Ended)
      (after : List Ended) : Type 0 where
    pub ended : AllZip EndsAs candidates (before ++ chosen ∷ after)
    pub dearer : AllByRecursion (λ (e : Ended). cost_of facts chosen.plan < cost_of facts e.plan) before
    pub no_cheaper : AllByRecursion (λ (e : Ended). cost_of facts chosen.plan ≤ cost_of facts e.plan) after

-- the candidates' rule is one of them where the chosen one is not the first candidate
abbrev pub applied_by_order : List Ended → List RuleName
applied_by_order [] = []
applied_by_order (e ∷ es) = rule.InterchangeAdjacentEnumerations ∷ []

-- q is the plan that is chosen for p, and these rules changed it
pub record Chosen (facts : Facts) (rules : Rules) (p q : Plan) (applied : List RuleName) : Type 0 where
  pub first : Ended
  pub ran_first : AfterRules facts rules p first_rules first.plan first.applied
  pub candidates : List Plan
  pub are : CandidatesBy rules first.plan candidates
  pub before : List Ended
  pub after : List Ended
  pub chosen : Ended
  pub cheapest : IsCheapest facts rules candidates before chosen after
  pub plan : q ≡ chosen.plan
  pub names : applied ≡ first.applied ++ (applied_by_order before ++ chosen.applied)
