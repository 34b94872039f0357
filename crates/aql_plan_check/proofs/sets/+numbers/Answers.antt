-- The node's variables, and those below.
use Rattle.aql_plan.specs.View.{plan_tree}
use Rattle.aql_plan_check.proofs.Tests.{sets_over, both, first_fails}
use Rattle.aql_plan_check.proofs.sets.+numbers.Goals as goal

pub sets_numbers-returns-then-top_sets_numbers : goal.sets_numbers-returns-then-top_sets_numbers
sets_numbers-returns-then-top_sets_numbers t c = both c.top_sets_numbers.result c.sets_numbers.result
    (sets_over (plan_tree c.args.plan.now) (plan_tree c.in-Some.below.now) c.in-Some.ensures)
    c.top_sets_numbers.ensures c.sets_numbers.ensures c.if-top_sets_numbers.true

pub sets_numbers-returns-else-top_sets_numbers : goal.sets_numbers-returns-else-top_sets_numbers
sets_numbers-returns-else-top_sets_numbers t c = first_fails c.top_sets_numbers.result
    (sets_over (plan_tree c.args.plan.now) (plan_tree c.in-Some.below.now) c.in-Some.ensures)
    c.top_sets_numbers.ensures c.if-top_sets_numbers.false
