use Rattle.std.proofs.Common.{rules}
use Rattle.aql_script.proofs.line.fault_at.Goals as goal

pub returns : goal.returns
returns c = search rules
