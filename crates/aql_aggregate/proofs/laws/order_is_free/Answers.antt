use Rattle.aql_aggregate.specs.laws.Order.{in_any_order}
use Rattle.aql_aggregate.proofs.laws.order_is_free.Goals as goal

pub returns : goal.returns
returns c = in_any_order
