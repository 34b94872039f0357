use Rattle.std.proofs.Common.{◌∙◌}
use Rattle.aql_func.specs.laws.Firsts.{held}
use Rattle.aql_func.proofs.arrays.is_in.Goals as goal

pub returns : goal.returns
returns c = c.contains.ensures.value ∙ held c.args.value.now c.args.values.now
