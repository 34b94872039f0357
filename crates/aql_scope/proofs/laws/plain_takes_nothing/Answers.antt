use Rattle.aql_scope.specs.laws.PlainTakesNothing.{plain_takes_nothing}
use Rattle.aql_scope.proofs.laws.plain_takes_nothing.Goals as goal

pub returns : goal.returns
returns c = λ names e p n. let h = plain_takes_nothing names e p n in (h.0, h.1, h.2)
