use Rattle.aql_plan.proofs.RuleBits.{with_one}
use Rattle.aql_plan.proofs.rule_sets.Rules.with.Goals as goal

pub returns : goal.returns
returns c = λ r. with_one c.args.self.bits c.bit_of.result c.args.rule r c.bit_of.ensures
