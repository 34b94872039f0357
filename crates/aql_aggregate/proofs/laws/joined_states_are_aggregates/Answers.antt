use Rattle.aql_aggregate.proofs.Joined.{joined}
use Rattle.aql_aggregate.proofs.laws.joined_states_are_aggregates.Goals as goal

pub returns : goal.returns
returns c = joined
