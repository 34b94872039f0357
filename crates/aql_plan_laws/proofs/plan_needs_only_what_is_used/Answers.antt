use Rattle.aql_plan.specs.Runs.{Outside}
use Rattle.aql_plan_laws.specs.laws.Agreement.{runs_agree}
use Rattle.aql_plan_laws.proofs.plan_needs_only_what_is_used.Goals as goal

pub returns : goal.returns
returns c = λ p us w start other out h g. runs_agree p us w Outside Outside start other out tt h g
