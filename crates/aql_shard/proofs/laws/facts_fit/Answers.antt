use Rattle.aql_shard.proofs.KnownFits.{facts_fit}
use Rattle.aql_shard.proofs.laws.facts_fit.Goals as goal

pub returns : goal.returns
returns c = facts_fit
