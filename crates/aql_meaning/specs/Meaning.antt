-- What a query means: which values an expression has at a row (AQL fundamentals), what a clause makes of
-- the rows so far (high-level operations), and which lists a query answers. These are relations: documents
-- come in any order, rows with equal keys too, and a subquery may have any of its answers.
use Rattle.std.specs.Prelude.{ℕ, ◌≡◌, List, [], ◌∷◌, true, IsPermutation, MatchOption}
use Rattle.std.specs.Bool.{MatchBool}
use Rattle.std.specs.List.{AllZip}
use Rattle.aql_value.specs.Datum.{Datum, null, boolean}
use Rattle.aql_value.specs.Contents.{list, elements, at_name, at_value}
use Rattle.aql_value.specs.Convert.{to_number, to_text}
use Rattle.aql_value.specs.Database.{Database, documents_named}
use Rattle.aql_value.specs.Truth.{truth}
use Rattle.aql_func.specs.Named.{call_named}
use Rattle.aql_func.specs.Operators.{unary, range}
use Rattle.aql_tree.specs.declared.syntax.Ident.{Ident}
use Rattle.aql_tree.specs.Tree.{ExprTree, literal, variable, current, array_literal, object_literal, access, function_call, unary_of, chain, array_comparison, ternary, range_of, subquery, ExprTrees, no_exprs, expr_then, MaybeExpr, no_expr, one_expr, MemberTrees, no_members, named_then, computed_then, StepTrees, no_steps, name_then, at_then, inline_then, LinkTrees, no_links, link_then, ClauseTree, for_each, for_documents, traversal, filter_by, let_be, sort_by, limit, collect, AggregateTrees, no_aggregates, aggregate_then, IntoTree, no_into, into, ClauseTrees, no_clauses, clause_then, QueryTree, query}
use Rattle.aql_meaning.specs.Row.{Row, value_at}
use Rattle.aql_meaning.specs.Expressions.{quantify, object_value, LinkGives}
use Rattle.aql_meaning.specs.AtRows.{stops}
use Rattle.aql_meaning.specs.Clauses.{with_elements, with_documents, filter_true, with_values, limit_rows, return_values, Sorts}
use Rattle.aql_meaning.specs.Groups.{GroupedRow, IsGroupedRow, Collects, variables_object}
use Rattle.aql_meaning.specs.Paths.{Traverses}
use Rattle.aql_meaning.specs.Options.{with_settings}
use Rattle.aql_meaning.specs.Visible.{aggregate_vars, aggregate_functions, into_var, vars_after, collection_meant, edges_named}

module _ (db : Database) where
  abbrev mutual
    -- v is a value of the expression at a row, where CURRENT is `cur`
    pub Evaluates : ExprTree → Datum → Row → Datum → Type 0
    Evaluates (literal t) cur row v = v ≡ t
    Evaluates (variable x) cur row v = v ≡ value_at row x
    Evaluates current cur row v = v ≡ cur
    Evaluates (array_literal es) cur row v = (vs : List Datum) × EvaluatesAll es cur row vs × (v ≡ list vs)
    Evaluates (object_literal ms) cur row v =
        (fs : List (List ℕ × Datum)) × EvaluatesMembers ms cur row fs × (v ≡ object_value fs)
    Evaluates (access e ss) cur row v = (a : Datum) × Evaluates e cur row a × EvaluatesSteps ss cur row a v
    Evaluates (function_call name es) cur row v =
        (vs : List Datum) × EvaluatesAll es cur row vs × (v ≡ call_named name vs)
    Evaluates (unary_of op e) cur row v = (a : Datum) × Evaluates e cur row a × (v ≡ unary op a)
    Evaluates (chain e ls) cur row v = (a : Datum) × Evaluates e cur row a × EvaluatesLinks ls cur row a v
    Evaluates (array_comparison e kind op f) cur row v =
        (a : Datum) × (b : Datum) × Evaluates e cur row a × Evaluates f cur row b × (v ≡ quantify kind op a b)
    Evaluates (ternary test first other) cur row v =
        (a : Datum) × Evaluates test cur row a
        × MatchBool (truth a) (EvaluatesOr first cur row a v) (Evaluates other cur row v)
    Evaluates (range_of e f) cur row v =
        (a : Datum) × (b : Datum) × Evaluates e cur row a × Evaluates f cur row b
        × (v ≡ range (to_number a) (to_number b))
    Evaluates (subquery q) cur row v = (vs : List Datum) × IsAnswer q row vs × (v ≡ list vs)

    -- one value for each expression, in order
    pub EvaluatesAll : ExprTrees → Datum → Row → List Datum → Type 0
    EvaluatesAll no_exprs cur row [] = Unit {0}
    EvaluatesAll (expr_then e es) cur row (v ∷ vs) = Evaluates e cur row v × EvaluatesAll es cur row vs
    EvaluatesAll es cur row vs = ⊥

    -- a value of the expression, or d where there is none
    pub EvaluatesOr : MaybeExpr → Datum → Row → Datum → Datum → Type 0
    EvaluatesOr no_expr cur row d v = v ≡ d
    EvaluatesOr (one_expr e) cur row d v = Evaluates e cur row v

    -- the members of an object literal, each with its name and one value
    pub EvaluatesMembers : MemberTrees → Datum → Row → List (List ℕ × Datum) → Type 0
    EvaluatesMembers no_members cur row [] = Unit {0}
    EvaluatesMembers (named_then name e ms) cur row (f ∷ fs) =
        (f.0 ≡ name) × Evaluates e cur row f.1 × EvaluatesMembers ms cur row fs
    EvaluatesMembers (computed_then n e ms) cur row (f ∷ fs) =
        (k : Datum) × Evaluates n cur row k × (f.0 ≡ to_text k) × Evaluates e cur row f.1
        × EvaluatesMembers ms cur row fs
    EvaluatesMembers ms cur row fs = ⊥

    -- the steps of an access lead from d to v. An inline expression tests the elements, takes one value of
    -- each that is kept, and from each of these goes the steps after it
    pub EvaluatesSteps : StepTrees → Datum → Row → Datum → Datum → Type 0
    EvaluatesSteps no_steps cur row d v = v ≡ d
    EvaluatesSteps (name_then name ss) cur row d v = EvaluatesSteps ss cur row (at_name d name) v
    EvaluatesSteps (at_then e ss) cur row d v =
        (i : Datum) × Evaluates e cur row i × EvaluatesSteps ss cur row (at_value d i) v
    EvaluatesSteps (inline_then filter gives ss) cur row d v =
        (tests : List Datum) × (given : List Datum) × (ends : List Datum)
        × AllZip (λ c test. EvaluatesOr filter c row (boolean true) test) (elements d) tests
        × AllZip (λ c w. EvaluatesOr gives c row c w) (filter_true (elements d) tests) given
        × AllZip (λ w u. EvaluatesSteps ss cur row w u) given ends
        × (v ≡ list ends)

    -- the links of a chain lead from the value a of what stands left of them to v
    pub EvaluatesLinks : LinkTrees → Datum → Row → Datum → Datum → Type 0
    EvaluatesLinks no_links cur row a v = v ≡ a
    EvaluatesLinks (link_then op e ls) cur row a v =
        (b : Datum) × LinkGives op (Evaluates e cur row) a b × EvaluatesLinks ls cur row b v

    -- the arguments of the aggregates, in order; null for one that has none
    pub EvaluatesArguments : AggregateTrees → Row → List Datum → Type 0
    EvaluatesArguments no_aggregates row [] = Unit {0}
    EvaluatesArguments (aggregate_then x name e rest) row (v ∷ vs) =
        EvaluatesOr e null row null v × EvaluatesArguments rest row vs
    EvaluatesArguments gs row vs = ⊥

    -- what INTO takes of a row: its expression, or the object of the variables
    pub EvaluatesInto : IntoTree → List Ident → Row → Datum → Type 0
    EvaluatesInto no_into vars row v = v ≡ null
    EvaluatesInto (into x what keep) vars row v = EvaluatesOr what null row (variables_object vars keep row) v

    -- a clause makes `out` of the rows; `start` is the start row, and `vars` are the variables that this
    -- query has set so far
    pub Changes : ClauseTree → Row → List Ident → List Row → List Row → Type 0
    Changes (for_each x e) start vars rows out = MatchOption (collection_meant e start vars)
        ((vs : List Datum) × AllZip (Evaluates e null) rows vs × (out ≡ with_elements x rows vs))
        (λ name. IsPermutation (with_documents x (documents_named db name) rows) out)
    Changes (for_documents x name) start vars rows out =
        IsPermutation (with_documents x (documents_named db name) rows) out
    Changes (traversal w e names prune settings) start vars rows out =
        (vs : List Datum) × AllZip (Evaluates e null) rows vs
        × Traverses db (with_settings settings w) (edges_named db names)
        (stops prune) rows vs out
    Changes (filter_by e) start vars rows out =
        (vs : List Datum) × AllZip (Evaluates e null) rows vs × (out ≡ filter_true rows vs)
    Changes (let_be x e) start vars rows out =
        (vs : List Datum) × AllZip (Evaluates e null) rows vs × (out ≡ with_values x rows vs)
    Changes (sort_by directions es) start vars rows out =
        (keys : List (List Datum)) × AllZip (EvaluatesAll es null) rows keys × Sorts directions keys rows out
    Changes (limit offset count) start vars rows out = out ≡ limit_rows offset count rows
    Changes (collect xs es gs i) start vars rows out =
        (grouped : List GroupedRow)
        × AllZip (λ row one. IsGroupedRow (EvaluatesAll es null row) (EvaluatesArguments gs row)
        (EvaluatesInto i vars row) one)
        rows grouped
        × Collects xs (aggregate_vars gs) (aggregate_functions gs) (into_var i)
        start grouped out

    -- the clauses, one after another
    pub Through : ClauseTrees → Row → List Ident → List Row → List Row → Type 0
    Through no_clauses start vars rows out = out ≡ rows
    Through (clause_then c cs) start vars rows out =
        (mid : List Row) × Changes c start vars rows mid × Through cs start (vars_after c vars) mid out

    -- `out` is an answer of the query from the row `start`; the collections of WITH have no part in it
    pub IsAnswer : QueryTree → Row → List Datum → Type 0
    IsAnswer (query with cs distinct e) start out =
        (rows : List Row) × (vs : List Datum)
        × Through cs start [] (start ∷ []) rows × AllZip (Evaluates e null) rows vs
        × (out ≡ return_values distinct vs)
