use Rattle.aql_meaning.specs.laws.OneValue.{one_value}
use Rattle.aql_meaning.proofs.laws.plain_has_one_value.Goals as goal

pub returns : goal.returns
returns c = λ db e h cur row. one_value db e h cur row
