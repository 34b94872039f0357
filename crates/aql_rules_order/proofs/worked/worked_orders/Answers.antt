use Rattle.std.proofs.Common.{refl}
use Rattle.aql_rules_order.proofs.worked.worked_orders.Goals as goal

pub returns : goal.returns
returns c = (refl, refl)
