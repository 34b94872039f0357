use Rattle.std.proofs.Common.{refl}
use Rattle.aql_opt.proofs.worked.worked_estimates.Goals as goal

pub returns : goal.returns
returns c = (refl, refl, refl, refl, refl, refl, refl, refl, refl, refl, refl)
