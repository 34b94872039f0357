use Rattle.std.proofs.Common.{rules}
use Rattle.aql_lex.proofs.characters.is_fraction.Goals as goal

pub returns-in_default-3 : goal.returns-in_default-3
returns-in_default-3 c = search rules

pub returns-in-46 : goal.returns-in-46
returns-in-46 c = search rules
