-- What the contracts of private functions say of the later passes.
use Rattle.std.specs.Prelude.{◌≡◌, [], Bool, true, false}
use Rattle.aql_plan.specs.declared.facts.Facts.{Facts}
use Rattle.aql_plan.specs.declared.rules.RuleName.{RuleName}
use Rattle.aql_plan.specs.declared.rules.RuleName.TheVariants as rule
use Rattle.aql_plan.specs.Plan.{Plan}
use Rattle.aql_plan.specs.Refines.{Refines}
use Rattle.aql_plan.specs.Shapes.{HasNoFragment}
use Rattle.aql_plan.specs.WellFormed.{IsWellFormed}
use Rattle.aql_rewrite.specs.Swaps.{SetsNoMore}
use Rattle.aql_rules_cluster.specs.OnShards.{ReadsOnShards}

-- the rules of a cluster, whose passes come last and take plans with fragments
abbrev pub is_of_cluster : RuleName → Bool
is_of_cluster rule.ScatterInCluster = true
is_of_cluster rule.DistributeInCluster = true
is_of_cluster rule.RestrictToSingleShard = true
is_of_cluster rule.DistributeFiltercalcToCluster = true
is_of_cluster rule.RemoveUnnecessaryRemoteScatter = true
is_of_cluster rule.CollectInCluster = true
is_of_cluster rule.DistributeSortToCluster = true
is_of_cluster r = false

-- q may be run in the place of p: where there is a server it reads on shards alone, else it has no fragment
pub record Finished (facts : Facts) (p q : Plan) : Type 0 where
  pub refines : Refines facts q p
  pub well_formed : IsWellFormed facts [] q
  pub sets : SetsNoMore p q
  pub on_shards : ReadsOnShards facts q
  pub alone : facts.servers ≡ 0 → HasNoFragment q
