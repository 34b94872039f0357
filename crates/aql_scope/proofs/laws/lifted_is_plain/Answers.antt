use Rattle.aql_scope.specs.laws.Walk.{walked, scoped_is_lifted}
use Rattle.aql_scope.proofs.laws.lifted_is_plain.Goals as goal

pub returns : goal.returns
returns c = (λ names e n. (walked e names n).lifted.0, scoped_is_lifted)
