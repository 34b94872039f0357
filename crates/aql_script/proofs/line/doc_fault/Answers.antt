use Rattle.std.proofs.Common.{rules}
use Rattle.aql_script.proofs.line.doc_fault.Goals as goal

pub returns-in-TooMany : goal.returns-in-TooMany
returns-in-TooMany c = search rules
