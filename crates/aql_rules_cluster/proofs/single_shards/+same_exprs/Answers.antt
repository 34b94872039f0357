use Rattle.aql_rules_cluster.proofs.ShardsFound.{none_same}
use Rattle.aql_rules_cluster.proofs.single_shards.+same_exprs.Goals as goal

pub returns-in_default : goal.returns-in_default
returns-in_default t c = none_same c.args.a.now c.args.b.now c.in_default.ensures.cases
