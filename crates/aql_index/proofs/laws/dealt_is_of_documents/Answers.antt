use Rattle.aql_index.specs.laws.Dealing.{dealt_is_of_documents}
use Rattle.aql_index.proofs.laws.dealt_is_of_documents.Goals as goal

pub returns : goal.returns
returns c = dealt_is_of_documents
