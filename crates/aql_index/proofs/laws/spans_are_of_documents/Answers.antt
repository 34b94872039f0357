use Rattle.aql_index.specs.laws.InOrder.{spans_are_of_documents}
use Rattle.aql_index.proofs.laws.spans_are_of_documents.Goals as goal

pub returns : goal.returns
returns c = spans_are_of_documents
