use Rattle.aql_rules_cluster.specs.laws.Places.{no_place_means_on_shards}
use Rattle.aql_rules_cluster.proofs.laws.no_place_means_on_shards.Goals as goal

pub returns : goal.returns
returns c = no_place_means_on_shards
