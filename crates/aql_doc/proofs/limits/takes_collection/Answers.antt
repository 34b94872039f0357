use Rattle.std.proofs.Common.{rules}
use Rattle.aql_doc.proofs.limits.takes_collection.Goals as goal

pub returns : goal.returns
returns c = search rules
