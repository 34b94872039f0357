use Rattle.aql_aggregate.specs.laws.Formed.{states_formed}
use Rattle.aql_aggregate.proofs.laws.states_are_values.Goals as goal

pub returns : goal.returns
returns c = states_formed
