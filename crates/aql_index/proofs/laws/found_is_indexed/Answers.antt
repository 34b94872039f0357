use Rattle.aql_index.specs.laws.Found.{found_is_indexed}
use Rattle.aql_index.proofs.laws.found_is_indexed.Goals as goal

pub returns : goal.returns
returns c = found_is_indexed
