use Rattle.std.specs.Prelude.{[]}
use Rattle.aql_scope.specs.laws.Walk.{walked_query}
use Rattle.aql_scope.proofs.laws.each_number_has_its_name.Goals as goal

pub returns : goal.returns
returns c = λ q. (walked_query q [] 1).placed
