use Rattle.std.proofs.Common.{ap, ◌∙◌, not}
use Rattle.aql_value.specs.View.{datum_of}
use Rattle.aql_aggregate.specs.laws.Sums.{value_is}
use Rattle.aql_aggregate.proofs.summing.RunningSum.value.Goals as goal

pub returns : goal.returns
returns c ts h = value_is c.args.self.now ts (datum_of c.in_64_bits.result) h c.if-self.false
    (c.is_none.ensures ∙ ap not c.if-is_none.false) c.in_64_bits.ensures
