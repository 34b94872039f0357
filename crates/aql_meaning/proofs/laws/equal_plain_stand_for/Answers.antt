use Rattle.aql_meaning.specs.laws.Replaced.{equal_stand_for}
use Rattle.aql_meaning.proofs.laws.equal_plain_stand_for.Goals as goal

pub returns : goal.returns
returns c = equal_stand_for
