use Rattle.std.proofs.Common.{rules}
use Rattle.aql_grammar.proofs.operators.operator_after_not.Goals as goal

pub returns-in-Some-Keyword-In : goal.returns-in-Some-Keyword-In
returns-in-Some-Keyword-In c = search rules
