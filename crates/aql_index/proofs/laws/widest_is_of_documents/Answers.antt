use Rattle.aql_index.specs.laws.Widths.{widest_is_of_documents}
use Rattle.aql_index.proofs.laws.widest_is_of_documents.Goals as goal

pub returns : goal.returns
returns c = widest_is_of_documents
