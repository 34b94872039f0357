use Rattle.aql_index.specs.laws.InOrder.{span_is_of_documents}
use Rattle.aql_index.proofs.laws.span_is_of_documents.Goals as goal

pub returns : goal.returns
returns c = span_is_of_documents
