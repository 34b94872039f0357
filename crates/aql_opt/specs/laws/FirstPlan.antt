-- The first plan of a query has no fragment, so the optimiser takes it.
use Rattle.std.proofs.Common.{List, [], ◌∷◌, Bool, false}
use Rattle.aql_tree.specs.Tree.{ExprTree, subquery, ClauseTree, for_each, for_documents, traversal, filter_by, let_be, sort_by, limit, collect, ClauseTrees, no_clauses, clause_then, QueryTree, query}
use Rattle.aql_plan.specs.declared.facts.Facts.{Facts}
use Rattle.aql_plan.specs.FirstPlan.{has_few_conditions, conditions_of, filters, after_clause, after_clauses, plan_of, first_plan}
use Rattle.aql_plan.specs.Plan.{Plan, Singleton, Over, Filter}
use Rattle.aql_plan.specs.Shapes.{HasNoFragment}
use Rattle.aql_plan.specs.WellFormed.{IsWellFormed}
use Rattle.aql_rewrite.specs.Placed.{IsWhole}

filters_lone : (es : List ExprTree) (b : Plan) → HasNoFragment b → HasNoFragment (filters b es)
filters_lone [] b h = h
filters_lone (e ∷ es) b h = filters_lone es (Over b (Filter e)) (h, tt)

module _ (facts : Facts) (split : Bool) where
  mutual
    clause_lone : (b : Plan) (c : ClauseTree) → HasNoFragment b → HasNoFragment (after_clause facts split b c)
    clause_lone b (for_each x e) h = (h, tt)
    clause_lone b (for_documents x name) h = (h, tt)
    clause_lone b (traversal w e names prune settings) h = (h, tt)
    clause_lone b (filter_by e) h = filters_lone (conditions_of split e) b h
    clause_lone b (let_be x (subquery q)) h = (h, plan_lone q)
    clause_lone b (let_be x e) h = (h, tt)
    clause_lone b (sort_by directions es) h = (h, tt)
    clause_lone b (limit offset count) h = (h, tt)
    clause_lone b (collect xs es gs i) h = (h, tt)

    clauses_lone : (b : Plan) (cs : ClauseTrees) → HasNoFragment b → HasNoFragment (after_clauses facts split b cs)
    clauses_lone b no_clauses h = h
    clauses_lone b (clause_then c cs) h = clauses_lone (after_clause facts split b c) cs (clause_lone b c h)

    plan_lone : (q : QueryTree) → HasNoFragment (plan_of facts split q)
    plan_lone (query with cs distinct e) = (clauses_lone Singleton cs tt, tt)

pub first_whole : (facts : Facts) (q : QueryTree) → IsWellFormed facts [] (first_plan facts q)
    → IsWhole false facts (first_plan facts q)
first_whole facts q h = (h, plan_lone facts (has_few_conditions q) q)
