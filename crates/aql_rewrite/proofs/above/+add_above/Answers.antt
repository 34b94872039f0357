-- The nearest list first, and then the others.
use Rattle.std.proofs.lemmas.Result.{IfOk-equal}
use Rattle.aql_plan.specs.Used.{uses_tree}
use Rattle.aql_rewrite.specs.laws.Levels.{added}
use Rattle.aql_rewrite.proofs.above.+add_above.Goals as goal

pub returns-in_ok-add_copies-in-Some : goal.returns-in_ok-add_copies-in-Some
returns-in_ok-add_copies-in-Some t c = IfOk-equal c.add_above.result _ _ _ c.add_above.ensures
    (added (uses_tree c.args.to.now) (uses_tree c.add_copies.new.to) c.args.above.now c.in-Some.further.now
    c.in-Some.own.now c.as_slice.result.now c.in-Some.ensures.cases.0 c.as_slice.ensures
    c.in_ok-add_copies-in-Some.ensures)
