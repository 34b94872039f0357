use Rattle.aql_aggregate.proofs.Stages.{two_stages}
use Rattle.aql_aggregate.proofs.laws.two_stages_are_one.Goals as goal

pub returns : goal.returns
returns c = two_stages
