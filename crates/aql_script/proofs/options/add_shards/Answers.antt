use Rattle.std.proofs.Common.{rules}
use Rattle.aql_script.proofs.options.add_shards.Goals as goal

pub returns-then-is_some : goal.returns-then-is_some
returns-then-is_some c = search rules
