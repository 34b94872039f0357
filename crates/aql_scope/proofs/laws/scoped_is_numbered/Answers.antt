use Rattle.aql_scope.specs.laws.Walk.{walked_query, are_numbers}
use Rattle.aql_scope.proofs.laws.scoped_is_numbered.Goals as goal

pub returns : goal.returns
returns c = λ outer o n h q. ((walked_query q outer n).numbered (are_numbers outer o) h).0
