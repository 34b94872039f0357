-- The laws of rules for a cluster that are contracts of public functions.
use Rattle.std.specs.Prelude.{◌↔◌, [], false}
use Rattle.aql_plan.specs.declared.facts.Facts.{Facts}
use Rattle.aql_plan.specs.Needs.{result_uses}
use Rattle.aql_plan.specs.Plan.{Plan}
use Rattle.aql_plan.specs.WellFormed.{IsWellFormed}
use Rattle.aql_rewrite.specs.Places.{NoPlace}
use Rattle.aql_rules_cluster.specs.OnShards.{ReadsOnShards}
use Rattle.aql_rules_cluster.specs.ScatterInCluster.{Scatters}

-- in a well-formed plan scatter-in-cluster has no place exactly where the plan reads on shards alone
abbrev pub NoPlaceMeansOnShards : Type 0
NoPlaceMeansOnShards = (facts : Facts) (p : Plan) → IsWellFormed facts [] p
    → NoPlace (Scatters facts) false result_uses p ↔ ReadsOnShards facts p
