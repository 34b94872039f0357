use Rattle.std.proofs.Common.{get_or, arith}
use Rattle.std.proofs.lemmas.Grind.{common_steps}
use Rattle.aql_tree.specs.declared.syntax.Clause.{the_lemmas}
use Rattle.aql_plan.specs.View.{plan_tree}
use Rattle.aql_scope.specs.laws.Turns.{one_further}
use Rattle.aql_build.proofs.Moved.{at_hand, none_left, clause_moved, clauses_moved, numbers_split}
use Rattle.aql_build.proofs.first.+first.Goals as goal

pub clauses_plan-loop-clause-preserved : goal.clauses_plan-loop-clause-preserved
clauses_plan-loop-clause-preserved t c =
    let all = c.args.clauses.now in
    let i = c.loop-clause.clause-index in
    let items = c.loop-clause.items in
    let clause = get_or items i c.clause-item.result in
    let ahead = c.loop-clause.invariant.2 in
    let here = at_hand all i items c.as_mut_slice-items.result.now c.clause-item.result ahead
    c.as_mut_slice-items.ensures.value c.loop-clause-test.true c.clause-item.is in (
      (numbers_split all i clause here c.loop-clause.invariant.0).1,
      clause_moved c.args.facts.now c.args.split all i clause (plan_tree c.loop-clause.plan) (plan_tree c.in_ok-plan.plan) _
          here c.loop-clause.invariant.1 c.in_ok-plan.ensures,
      one_further all i items ahead c.after_clause.new.clause,
    )

pub clauses_plan-returns : goal.clauses_plan-returns
clauses_plan-returns t c =
    let all = c.args.clauses.now in
    let i = c.loop-clause.clause-index in
    clauses_moved c.args.facts.now c.args.split all i (plan_tree c.loop-clause.plan) _
    (none_left all i c.as_mut_slice-items.result.now c.as_mut_slice-items.ensures.value c.loop-clause-test.false)
    c.loop-clause.invariant.1

pub after_clause-returns-in-Limit : goal.after_clause-returns-in-Limit
after_clause-returns-in-Limit t c = grind (arith, common_steps, the_lemmas)
