use Rattle.std.proofs.Common.{rules}
use Rattle.aql_top.proofs.texts.of_name.Goals as goal

pub returns : goal.returns
returns c = search rules
