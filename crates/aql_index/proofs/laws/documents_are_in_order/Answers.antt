use Rattle.aql_index.specs.laws.InOrder.{documents_are_in_order}
use Rattle.aql_index.proofs.laws.documents_are_in_order.Goals as goal

pub returns : goal.returns
returns c = documents_are_in_order
