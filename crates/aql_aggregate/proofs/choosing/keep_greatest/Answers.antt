use Rattle.std.proofs.Common.{Some, ap, ◌∙◌}
use Rattle.aql_value.specs.View.{datum_of}
use Rattle.aql_aggregate.specs.States.{datum_in}
use Rattle.aql_aggregate.specs.laws.Best.{greatest_more, is_taken, is_left}
use Rattle.aql_aggregate.proofs.choosing.keep_greatest.Goals as goal

pub returns-in_ok-copy : goal.returns-in_ok-copy
returns-in_ok-copy c ts h = ap Some c.in_ok-copy.ensures ∙ is_taken _ _ _ _ c.if-is_greater.true c.is_greater.ensures
    ∙ greatest_more (datum_in c.args.greatest.now) ts (datum_of c.args.value.now) h

pub returns-else-is_greater : goal.returns-else-is_greater
returns-else-is_greater c ts h = is_left _ _ _ _ c.if-is_greater.false c.is_greater.ensures
    ∙ greatest_more (datum_in c.args.greatest.now) ts (datum_of c.args.value.now) h
