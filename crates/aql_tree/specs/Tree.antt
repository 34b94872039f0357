-- Queries, clauses and expressions as the definitions see them: what a query says, with no trace of
-- how the program stores it. The forms are those of the AQL manual's chapters on fundamentals,
-- operators, high-level operations and graph traversals.
use Rattle.std.specs.Prelude.{ℕ, Bool, List, Option}
use Rattle.aql_value.specs.Datum.{Datum}
use Rattle.aql_value.specs.declared.operators.BinOp.{BinOp}
use Rattle.aql_value.specs.declared.operators.UnaryOp.{UnaryOp}
use Rattle.aql_tree.specs.declared.syntax.Ident.{Ident}
use Rattle.aql_tree.specs.declared.syntax.QuantKind.{QuantKind}
use Rattle.aql_tree.specs.declared.syntax.Direction.{Direction}
use Rattle.aql_tree.specs.declared.syntax.UniqueEdges.{UniqueEdges}
use Rattle.aql_tree.specs.declared.syntax.UniqueVertices.{UniqueVertices}

-- the options of a traversal
pub record TraversalOptions : Type 0 where
  pub edges : UniqueEdges
  pub vertices : UniqueVertices
  pub bfs : Bool

-- what a traversal says beside its expressions and its edge collections
pub record TraversalShape : Type 0 where
  pub vertex : Ident
  pub edge : Option Ident
  pub path : Option Ident
  pub min : ℕ
  pub max : ℕ
  pub direction : Direction
  pub options : TraversalOptions

mutual
  pub data ExprTree : Type 0 where
    literal : Datum → ExprTree
    variable : Ident → ExprTree
    current : ExprTree
    -- `[e, ..]`
    array_literal : ExprTrees → ExprTree
    -- `{name: e, [e]: e, ..}`
    object_literal : MemberTrees → ExprTree
    -- an expression and the steps after it
    access : ExprTree → StepTrees → ExprTree
    -- a function's name and its arguments
    function_call : List ℕ → ExprTrees → ExprTree
    unary_of : UnaryOp → ExprTree → ExprTree
    -- what stands first, and the operators with their right sides
    chain : ExprTree → LinkTrees → ExprTree
    -- `e ALL == e`
    array_comparison : ExprTree → QuantKind → BinOp → ExprTree → ExprTree
    -- `e ? e : e`, where the middle may be missing
    ternary : ExprTree → MaybeExpr → ExprTree → ExprTree
    -- `e..e`
    range_of : ExprTree → ExprTree → ExprTree
    subquery : QueryTree → ExprTree

  -- the one list of expressions, of whatever they are the parts
  pub data ExprTrees : Type 0 where
    no_exprs : ExprTrees
    expr_then : ExprTree → ExprTrees → ExprTrees

  pub data MaybeExpr : Type 0 where
    no_expr : MaybeExpr
    one_expr : ExprTree → MaybeExpr

  -- the members of an object literal: `name: e` and `[e]: e`
  pub data MemberTrees : Type 0 where
    no_members : MemberTrees
    named_then : List ℕ → ExprTree → MemberTrees → MemberTrees
    computed_then : ExprTree → ExprTree → MemberTrees → MemberTrees

  -- the steps of an access: `.name`, `[e]` and the inline expression `[* FILTER e RETURN e]`
  pub data StepTrees : Type 0 where
    no_steps : StepTrees
    name_then : List ℕ → StepTrees → StepTrees
    at_then : ExprTree → StepTrees → StepTrees
    inline_then : MaybeExpr → MaybeExpr → StepTrees → StepTrees

  -- the operators of a chain with their right sides
  pub data LinkTrees : Type 0 where
    no_links : LinkTrees
    link_then : BinOp → ExprTree → LinkTrees → LinkTrees

  pub data ClauseTree : Type 0 where
    -- `FOR x IN e`
    for_each : Ident → ExprTree → ClauseTree
    -- `FOR x IN collection`, once it is known to be one
    for_documents : Ident → List ℕ → ClauseTree
    -- a traversal: its start, its edge collections, PRUNE and OPTIONS
    traversal : TraversalShape → ExprTree → List (List ℕ) → MaybeExpr → MemberTrees → ClauseTree
    -- `FILTER e`
    filter_by : ExprTree → ClauseTree
    -- `LET x = e`
    let_be : Ident → ExprTree → ClauseTree
    -- SORT: which keys are descending, and the keys
    sort_by : List Bool → ExprTrees → ClauseTree
    -- LIMIT: how many rows are left out, and how many are kept at most
    limit : ℕ → ℕ → ClauseTree
    -- COLLECT: the variables of the criteria and the criteria, AGGREGATE and INTO
    collect : List Ident → ExprTrees → AggregateTrees → IntoTree → ClauseTree

  -- the aggregates: a variable, a function's name and its argument
  pub data AggregateTrees : Type 0 where
    no_aggregates : AggregateTrees
    aggregate_then : Ident → List ℕ → MaybeExpr → AggregateTrees → AggregateTrees

  -- INTO with its variable, its expression and the names of KEEP
  pub data IntoTree : Type 0 where
    no_into : IntoTree
    into : Ident → MaybeExpr → List (List ℕ) → IntoTree

  pub data ClauseTrees : Type 0 where
    no_clauses : ClauseTrees
    clause_then : ClauseTree → ClauseTrees → ClauseTrees

  -- the collections of WITH, the clauses, whether DISTINCT stands there, and what RETURN gives
  pub data QueryTree : Type 0 where
    query : List (List ℕ) → ClauseTrees → Bool → ExprTree → QueryTree
