use Rattle.std.proofs.Common.{rules}
use Rattle.aql_grammar.proofs.limits.effect_of_symbol.Goals as goal

pub returns-in_default : goal.returns-in_default
returns-in_default c = search rules
