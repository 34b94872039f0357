use Rattle.aql_plan.specs.laws.Paired.{groups_paired}
use Rattle.aql_plan_check.proofs.fits.recall_pairs.Goals as goal

pub returns : goal.returns
returns c = groups_paired c.args._groups.now
