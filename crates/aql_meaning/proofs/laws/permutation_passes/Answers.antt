use Rattle.aql_meaning.specs.laws.RowByRow.{permutation_passes}
use Rattle.aql_meaning.proofs.laws.permutation_passes.Goals as goal

pub returns : goal.returns
returns c = permutation_passes
