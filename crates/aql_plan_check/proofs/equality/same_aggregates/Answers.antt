-- Lists of aggregates of two lengths are not the same.
use Rattle.aql_plan_check.proofs.Lists.{other_length}
use Rattle.aql_plan_check.proofs.equality.same_aggregates.Goals as goal

pub returns-then-a-b : goal.returns-then-a-b
returns-then-a-b c = other_length c.args.a.now c.args.b.now c.if-a-b.true
