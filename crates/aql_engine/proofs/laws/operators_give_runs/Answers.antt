use Rattle.aql_engine.specs.laws.Sound.{produces_runs}
use Rattle.aql_engine.proofs.laws.operators_give_runs.Goals as goal

pub returns : goal.returns
returns c = produces_runs
