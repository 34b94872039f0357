use Rattle.aql_aggregate.proofs.Names.{ignoring_case}
use Rattle.aql_aggregate.proofs.kinds.is_called.Goals as goal

pub returns : goal.returns
returns c = ignoring_case _ _ _ c.eq_ignore_ascii_case.ensures.test
