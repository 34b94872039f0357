-- How deep the traversals of a query go: whether the greatest depth of each, wherever it stands, is
-- at most a number (AQL manual, Graphs, Traversals).
use Rattle.std.specs.Prelude.{ℕ, Bool, true, ◌&&◌, nat_le}
use Rattle.aql_tree.specs.Tree.{ExprTree, literal, variable, current, array_literal, object_literal, access, function_call}
use Rattle.aql_tree.specs.Tree.{unary_of, chain, array_comparison, ternary, range_of, subquery, ExprTrees}
use Rattle.aql_tree.specs.Tree.{no_exprs, expr_then, MaybeExpr, no_expr, one_expr, MemberTrees, no_members}
use Rattle.aql_tree.specs.Tree.{named_then, computed_then, StepTrees, no_steps, name_then, at_then}
use Rattle.aql_tree.specs.Tree.{inline_then, LinkTrees, no_links, link_then, ClauseTree, for_each}
use Rattle.aql_tree.specs.Tree.{for_documents, traversal, filter_by, let_be, sort_by, limit, collect}
use Rattle.aql_tree.specs.Tree.{AggregateTrees, no_aggregates, aggregate_then, IntoTree, no_into, into}
use Rattle.aql_tree.specs.Tree.{ClauseTrees, no_clauses, clause_then, QueryTree, query}

module _ (most : ℕ) where
  abbrev mutual
    pub expr_within : ExprTree → Bool
    expr_within (literal v) = true
    expr_within (variable x) = true
    expr_within current = true
    expr_within (array_literal es) = exprs_within es
    expr_within (object_literal ms) = members_within ms
    expr_within (access e ss) = expr_within e && steps_within ss
    expr_within (function_call name es) = exprs_within es
    expr_within (unary_of op e) = expr_within e
    expr_within (chain e ls) = expr_within e && links_within ls
    expr_within (array_comparison e kind op f) = expr_within e && expr_within f
    expr_within (ternary t y n) = expr_within t && (maybe_within y && expr_within n)
    expr_within (range_of e f) = expr_within e && expr_within f
    expr_within (subquery q) = traversals_within q

    pub exprs_within : ExprTrees → Bool
    exprs_within no_exprs = true
    exprs_within (expr_then e es) = expr_within e && exprs_within es

    pub maybe_within : MaybeExpr → Bool
    maybe_within no_expr = true
    maybe_within (one_expr e) = expr_within e

    pub members_within : MemberTrees → Bool
    members_within no_members = true
    members_within (named_then name e ms) = expr_within e && members_within ms
    members_within (computed_then n e ms) = (expr_within n && expr_within e) && members_within ms

    pub steps_within : StepTrees → Bool
    steps_within no_steps = true
    steps_within (name_then name ss) = steps_within ss
    steps_within (at_then e ss) = expr_within e && steps_within ss
    steps_within (inline_then f p ss) = (maybe_within f && maybe_within p) && steps_within ss

    pub links_within : LinkTrees → Bool
    links_within no_links = true
    links_within (link_then op e ls) = expr_within e && links_within ls

    pub clause_within : ClauseTree → Bool
    clause_within (for_each x e) = expr_within e
    clause_within (for_documents x name) = true
    clause_within (traversal shape start names prune settings) = nat_le shape.max most &&
        (expr_within start && (maybe_within prune && members_within settings))
    clause_within (filter_by e) = expr_within e
    clause_within (let_be x e) = expr_within e
    clause_within (sort_by descending keys) = exprs_within keys
    clause_within (limit offset count) = true
    clause_within (collect vars criteria gs i) = exprs_within criteria &&
        (aggregates_within gs && into_within i)

    pub aggregates_within : AggregateTrees → Bool
    aggregates_within no_aggregates = true
    aggregates_within (aggregate_then x name e gs) = maybe_within e && aggregates_within gs

    pub into_within : IntoTree → Bool
    into_within no_into = true
    into_within (into x what keep) = maybe_within what

    pub clauses_within : ClauseTrees → Bool
    clauses_within no_clauses = true
    clauses_within (clause_then c cs) = clause_within c && clauses_within cs

    -- no traversal of the query goes deeper
    pub traversals_within : QueryTree → Bool
    traversals_within (query with_list cs distinct e) = clauses_within cs && expr_within e
