use Rattle.aql_plan.specs.laws.SomeRun.{some_run}
use Rattle.aql_plan_laws.proofs.every_plan_has_a_list.Goals as goal

pub returns : goal.returns
returns c = some_run
