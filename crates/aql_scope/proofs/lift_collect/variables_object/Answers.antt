use Rattle.std.proofs.Common.{rules}
use Rattle.aql_scope.proofs.lift_collect.variables_object.Goals as goal

pub returns-then-keep-eq0 : goal.returns-then-keep-eq0
returns-then-keep-eq0 c = search rules
