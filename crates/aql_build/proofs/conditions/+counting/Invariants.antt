use Rattle.std.proofs.Common.{◌≡◌, ◌-◌, map, drop}
use Rattle.aql_tree.specs.View.{clause_tree, clauses}
use Rattle.aql_plan.specs.FirstPlan.{clauses_conditions}
use Rattle.aql_build.proofs.conditions.+counting.Given as goal

abbrev pub invariant-less_query-loop-clause : goal.invariant-less_query-loop-clause
invariant-less_query-loop-clause l =
    l.left - clauses_conditions (clauses (map clause_tree (drop l.clause-index l.query.clauses)))
    ≡ l.most - clauses_conditions (clauses (map clause_tree l.query.clauses))
