-- What the rules for a cluster show of themselves, for their passes.
use Rattle.std.proofs.Common.{refl}
use Rattle.aql_plan.specs.declared.facts.Facts.{Facts}
use Rattle.aql_plan.specs.Plan.{Over, Subquery}
use Rattle.aql_rules_cluster.specs.CollectInCluster.{CollectsInside}
use Rattle.aql_rules_cluster.specs.DistributeFiltercalcToCluster.{MovesInside}
use Rattle.aql_rules_cluster.specs.DistributeInCluster.{Distributes}
use Rattle.aql_rules_cluster.specs.DistributeSortToCluster.{SortsInside}
use Rattle.aql_rules_cluster.specs.RestrictToSingleShard.{Restricts}
use Rattle.aql_rules_cluster.specs.ScatterInCluster.{Scatters}
use Rattle.aql_rules_cluster.specs.laws.CollectPlaces as collect
use Rattle.aql_rules_cluster.specs.laws.CollectsOnShards.{collects_refine}
use Rattle.aql_rules_cluster.specs.laws.CollectsStayWell.{collects_keep}
use Rattle.aql_rules_cluster.specs.laws.DistributePlaces as distribute
use Rattle.aql_rules_cluster.specs.laws.DistributeRefines.{distributes_refine}
use Rattle.aql_rules_cluster.specs.laws.DistributeStaysWell.{distributes_keep}
use Rattle.aql_rules_cluster.specs.laws.FiltercalcPlaces as filtercalc
use Rattle.aql_rules_cluster.specs.laws.FiltercalcRefines.{moves_refine, moves_keep}
use Rattle.aql_rules_cluster.specs.laws.Narrowed.{restricts_refine}
use Rattle.aql_rules_cluster.specs.RemoveUnnecessaryRemoteScatter.{Joins}
use Rattle.aql_rules_cluster.specs.laws.JoinedPlaces as join
use Rattle.aql_rules_cluster.specs.laws.JoinedShards.{joins_refine}
use Rattle.aql_rules_cluster.specs.laws.JoinedWell.{joins_keep}
use Rattle.aql_rules_cluster.specs.laws.Passes.{ForCluster}
use Rattle.aql_rules_cluster.specs.laws.Places as scatter
use Rattle.aql_rules_cluster.specs.laws.RestrictPlaces as restrict
use Rattle.aql_rules_cluster.specs.laws.Scattered.{scatters_refine}
use Rattle.aql_rules_cluster.specs.laws.SortPlaces as sort
use Rattle.aql_rules_cluster.specs.laws.SortsOnShards.{sorts_refine}
use Rattle.aql_rules_cluster.specs.laws.SortsStayWell.{sorts_keep}
use Rattle.aql_rules_cluster.specs.laws.StayWell.{scatters_keep}

pub scatter_in_cluster : (facts : Facts) → ForCluster facts (Scatters facts)
scatter_in_cluster facts = record {
  alone = scatter.stays_alone facts;
  refining = scatters_refine facts;
  keeping = scatters_keep facts;
  running = scatter.runs_on facts;
  bodies = λ us b s v. scatter.stays facts us (Over b (Subquery v s)) refl;
  adds = λ us p q r. scatter.none_scattered facts;
}

pub distribute_in_cluster : (facts : Facts) → ForCluster facts (Distributes facts)
distribute_in_cluster facts = record {
  alone = distribute.stays_alone facts;
  refining = λ outer away us p q r placed h. distributes_refine facts us p q r h;
  keeping = distributes_keep facts;
  running = distribute.runs_on facts;
  bodies = λ us b s v. distribute.stays facts us (Over b (Subquery v s))
      (distribute.no_bottom facts (Over b (Subquery v s)) refl);
  adds = λ us p q r. distribute.none_distributed facts;
}

pub distribute_filtercalc : (facts : Facts) → ForCluster facts (MovesInside facts)
distribute_filtercalc facts = record {
  alone = filtercalc.stays_alone facts;
  refining = moves_refine facts;
  keeping = moves_keep facts;
  running = filtercalc.runs_on facts;
  bodies = λ us b s v. filtercalc.stays facts us (Over b (Subquery v s)) refl;
  adds = λ us p q r. filtercalc.none_moved facts;
}

pub distribute_sort : (facts : Facts) → ForCluster facts (SortsInside facts)
distribute_sort facts = record {
  alone = sort.stays_alone facts;
  refining = λ outer away us p q r placed h. sorts_refine facts us p q r h;
  keeping = sorts_keep facts;
  running = sort.runs_on facts;
  bodies = λ us b s v. sort.stays facts us (Over b (Subquery v s)) refl;
  adds = λ us p q r. sort.none_sorted facts;
}

pub collect_in_cluster : (facts : Facts) → ForCluster facts (CollectsInside facts)
collect_in_cluster facts = record {
  alone = collect.stays_alone facts;
  refining = collects_refine facts;
  keeping = collects_keep facts;
  running = collect.runs_on facts;
  bodies = λ us b s v. collect.stays facts us (Over b (Subquery v s)) refl;
  adds = λ us p q r. collect.none_collected facts;
}

pub restrict_to_single_shard : (facts : Facts) → ForCluster facts (Restricts facts)
restrict_to_single_shard facts = record {
  alone = restrict.stays_alone facts;
  refining = λ outer away us p q r placed h. restricts_refine facts us p q r h;
  keeping = restrict.restricts_keep facts;
  running = restrict.runs_on facts;
  bodies = λ us b s v. restrict.stays_at_bodies facts us b s v;
  adds = λ us p q r. restrict.none_restricted facts;
}

pub remove_remote_scatter : (facts : Facts) → ForCluster facts (Joins facts)
remove_remote_scatter facts = record {
  alone = join.stays_alone facts;
  refining = joins_refine facts;
  keeping = joins_keep facts;
  running = join.runs_on facts;
  bodies = λ us b s v. join.stays facts us (Over b (Subquery v s)) refl;
  adds = λ us p q r. join.none_joined facts;
}
