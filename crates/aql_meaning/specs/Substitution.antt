-- Places in a tree: q at each place where the variable x stands, also within subqueries and whatever x
-- means there. So a tree with x at some place and nowhere else is a tree with a place for an expression.
use Rattle.std.specs.Prelude.{◌≡◌, List, cond}
use Rattle.aql_value.specs.Datum.{Datum}
use Rattle.aql_value.specs.Database.{Database}
use Rattle.aql_tree.specs.declared.syntax.Ident.{Ident}
use Rattle.aql_tree.specs.Tree.{ExprTree, literal, variable, current, array_literal, object_literal, access, function_call, unary_of, chain, array_comparison, ternary, range_of, subquery, ExprTrees, no_exprs, expr_then, MaybeExpr, no_expr, one_expr, MemberTrees, no_members, named_then, computed_then, StepTrees, no_steps, name_then, at_then, inline_then, LinkTrees, no_links, link_then, ClauseTree, for_each, for_documents, traversal, filter_by, let_be, sort_by, limit, collect, AggregateTrees, no_aggregates, aggregate_then, IntoTree, no_into, into, ClauseTrees, no_clauses, clause_then, QueryTree, query}
use Rattle.aql_meaning.specs.Row.{Row, same_ident}
use Rattle.aql_meaning.specs.Value.{value}
use Rattle.aql_meaning.specs.Visible.{collection_meant}
use Rattle.aql_meaning.specs.Meaning.{Evaluates}

module _ (x : Ident) (q : ExprTree) where
  abbrev mutual
    pub put : ExprTree → ExprTree
    put (literal v) = literal v
    put (variable y) = cond (same_ident x y) q (variable y)
    put current = current
    put (array_literal es) = array_literal (put_all es)
    put (object_literal ms) = object_literal (put_members ms)
    put (access e ss) = access (put e) (put_steps ss)
    put (function_call name es) = function_call name (put_all es)
    put (unary_of op e) = unary_of op (put e)
    put (chain e ls) = chain (put e) (put_links ls)
    put (array_comparison a kind op b) = array_comparison (put a) kind op (put b)
    put (ternary test first other) = ternary (put test) (put_maybe first) (put other)
    put (range_of a b) = range_of (put a) (put b)
    put (subquery s) = subquery (put_query s)

    pub put_all : ExprTrees → ExprTrees
    put_all no_exprs = no_exprs
    put_all (expr_then e es) = expr_then (put e) (put_all es)

    pub put_maybe : MaybeExpr → MaybeExpr
    put_maybe no_expr = no_expr
    put_maybe (one_expr e) = one_expr (put e)

    pub put_members : MemberTrees → MemberTrees
    put_members no_members = no_members
    put_members (named_then name e ms) = named_then name (put e) (put_members ms)
    put_members (computed_then n e ms) = computed_then (put n) (put e) (put_members ms)

    pub put_steps : StepTrees → StepTrees
    put_steps no_steps = no_steps
    put_steps (name_then name ss) = name_then name (put_steps ss)
    put_steps (at_then e ss) = at_then (put e) (put_steps ss)
    put_steps (inline_then filter gives ss) = inline_then (put_maybe filter) (put_maybe gives) (put_steps ss)

    pub put_links : LinkTrees → LinkTrees
    put_links no_links = no_links
    put_links (link_then op e ls) = link_then op (put e) (put_links ls)

    -- the settings of a traversal are literals
    pub put_clause : ClauseTree → ClauseTree
    put_clause (for_each y e) = for_each y (put e)
    put_clause (for_documents y name) = for_documents y name
    put_clause (traversal w e names prune settings) = traversal w (put e) names (put_maybe prune) settings
    put_clause (filter_by e) = filter_by (put e)
    put_clause (let_be y e) = let_be y (put e)
    put_clause (sort_by directions es) = sort_by directions (put_all es)
    put_clause (limit offset count) = limit offset count
    put_clause (collect xs es aggregates i) = collect xs (put_all es) (put_aggregates aggregates) (put_into i)

    pub put_aggregates : AggregateTrees → AggregateTrees
    put_aggregates no_aggregates = no_aggregates
    put_aggregates (aggregate_then y name e rest) = aggregate_then y name (put_maybe e) (put_aggregates rest)

    pub put_into : IntoTree → IntoTree
    put_into no_into = no_into
    put_into (into y what keep) = into y (put_maybe what) keep

    pub put_clauses : ClauseTrees → ClauseTrees
    put_clauses no_clauses = no_clauses
    put_clauses (clause_then c cs) = clause_then (put_clause c) (put_clauses cs)

    pub put_query : QueryTree → QueryTree
    put_query (query with cs distinct e) = query with (put_clauses cs) distinct (put e)

-- each value of q is one of e; and where a place asks for more than the values, they are the same: the one
-- value that PRUNE goes by, and what stands right after IN, where a single name may mean a collection
pub record StandsFor (db : Database) (q e : ExprTree) : Type 0 where
  pub values : (cur : Datum) (row : Row) (v : Datum) → Evaluates db q cur row v → Evaluates db e cur row v
  pub plain : (cur : Datum) (row : Row) → value q cur row ≡ value e cur row
  pub after_in : (start : Row) (vars : List Ident)
      → collection_meant q start vars ≡ collection_meant e start vars
