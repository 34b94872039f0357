use Rattle.aql_value.specs.laws.Ranks.{datum_ranks}
use Rattle.aql_value.specs.laws.Strict.{total, transitive}
use Rattle.aql_value.proofs.Least.{at_least_name}
use Rattle.aql_value.proofs.order.order_is_total.Goals as goal

pub returns : goal.returns
returns c = record { total = total; transitive = transitive; objects = at_least_name; compare = datum_ranks }
