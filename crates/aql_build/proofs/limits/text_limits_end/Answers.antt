use Rattle.aql_build.proofs.Ends.{text_ends}
use Rattle.aql_build.proofs.limits.text_limits_end.Goals as goal

pub returns : goal.returns
returns c = text_ends
