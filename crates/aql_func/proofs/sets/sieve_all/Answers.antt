use Rattle.std.proofs.Common.{rules}
use Rattle.aql_func.proofs.sets.sieve_all.Goals as goal

pub returns-in_ok-left-in-Some : goal.returns-in_ok-left-in-Some
returns-in_ok-left-in-Some c = search rules
