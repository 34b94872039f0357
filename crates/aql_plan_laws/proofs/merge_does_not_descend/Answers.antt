use Rattle.aql_plan_laws.proofs.MergedOrder.{merge_does_not_descend}
use Rattle.aql_plan_laws.proofs.merge_does_not_descend.Goals as goal

pub returns : goal.returns
returns c = merge_does_not_descend
