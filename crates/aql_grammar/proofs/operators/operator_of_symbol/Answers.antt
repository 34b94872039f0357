use Rattle.std.proofs.Common.{rules}
use Rattle.aql_grammar.proofs.operators.operator_of_symbol.Goals as goal

pub returns-in-And : goal.returns-in-And
returns-in-And c = search rules
