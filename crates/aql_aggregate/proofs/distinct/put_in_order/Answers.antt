use Rattle.aql_func.specs.laws.Ascending.{sorted_is}
use Rattle.aql_aggregate.proofs.distinct.put_in_order.Goals as goal

pub returns : goal.returns
returns c = sorted_is _ _ c.sort.ensures.permutation c.in_ok-sort.ensures.sorted
