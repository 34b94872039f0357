-- The first fault of a query, in the order of its text (AQL fundamentals, Accessing data, Calling functions;
-- the high-level operations; Graphs, Traversals): a name that is not visible, one that is declared twice, a
-- collection or function that there is not, a wrong number of arguments, a document collection in place of an
-- edge collection, a subquery where none may stand, a setting that a traversal does not have.
use Rattle.std.specs.Prelude.{ℕ, suc, List, [], ◌∷◌, ◌++◌, Bool, true, false, not, ◌||◌, codes, Option, Some, None, is_some, option_to_list, slice_get, nat_le}
use Rattle.std.specs.List.{list_any}
use Rattle.aql_func.specs.declared.names.FuncName.{FuncName}
use Rattle.aql_func.specs.Names.{function_named, allows}
use Rattle.aql_func.specs.Aggregates.{Aggregate, count, aggregate_named}
use Rattle.aql_tree.specs.declared.syntax.Ident.{Ident}
use Rattle.aql_tree.specs.declared.syntax.Ident.TheVariants.{Name, Num}
use Rattle.aql_tree.specs.Tree.{TraversalShape, ExprTree, literal, variable, current, array_literal, object_literal, access, function_call, unary_of, chain, array_comparison, ternary, range_of, subquery, ExprTrees, no_exprs, expr_then, MaybeExpr, no_expr, one_expr, MemberTrees, no_members, named_then, computed_then, StepTrees, no_steps, name_then, at_then, inline_then, LinkTrees, no_links, link_then, ClauseTree, for_each, for_documents, traversal, filter_by, let_be, sort_by, limit, collect, AggregateTrees, no_aggregates, aggregate_then, IntoTree, no_into, into, ClauseTrees, no_clauses, clause_then, QueryTree, query}
use Rattle.aql_meaning.specs.Row.{same_ident}
use Rattle.aql_meaning.specs.Visible.{onto, vars_after, aggregate_vars}
use Rattle.aql_scope.specs.Numbering.{text_of}
use Rattle.aql_doc.specs.Held.{Held}
use Rattle.aql_doc.specs.Declarations.{collection_index}
use Rattle.aql_scope.specs.declared.faults.ScopeFault.{ScopeFault}
use Rattle.aql_scope.specs.declared.faults.ScopeFault.TheVariants.{UnknownName, Redeclared, UnknownCollection, UnknownFunction, WrongArity, NotEdge, SubqueryNotAllowed, BadOption}
use Rattle.aql_scope.specs.declared.options.Written.{Written}
use Rattle.aql_scope.specs.Options.{no_settings, with_setting, agree, is_breadth_first, global_fits}

-- where a part stands: the variables of the query at hand, the latest first, those of the queries around it,
-- the collections, and whether a subquery may stand there
pub record Context : Type 0 where
  pub own : List Ident
  pub outer : List Ident
  pub held : List Held
  pub lifts : Bool

abbrev pub is_among : List Ident → Ident → Bool
is_among xs x = list_any (λ y. same_ident y x) xs

-- the visible variables
abbrev pub visible_variables : Context → List Ident
visible_variables p = p.own ++ p.outer

-- within an inline expression, PRUNE and OPTIONS no subquery may stand
abbrev pub inline : Context → Context
inline p = record p { lifts = false }

-- at the opening of a subquery
abbrev pub within_subquery : Context → Context
within_subquery p = record { own = []; outer = visible_variables p; held = p.held; lifts = true }

abbrev pub after_clause : ClauseTree → Context → Context
after_clause c p = record p { own = vars_after c p.own }

abbrev pub after_clauses : ClauseTrees → Context → Context
after_clauses no_clauses p = p
after_clauses (clause_then c cs) p = after_clauses cs (after_clause c p)

-- a fault that is there where the test fails
abbrev pub unless : Bool → ScopeFault → Option ScopeFault
unless true fault = None
unless false fault = Some fault

-- the first of two, in the order of the text
abbrev pub first : Option ScopeFault → Option ScopeFault → Option ScopeFault
first (Some fault) later = Some fault
first None later = later

-- a variable that is declared, where `visible` are seen and `earlier` were declared in the same clause
abbrev pub new_name : List Ident → List Ident → Ident → Option ScopeFault
new_name visible earlier x = unless (not (is_among visible x || is_among earlier x)) (Redeclared (text_of x))

abbrev pub new_names : List Ident → List Ident → List Ident → Option ScopeFault
new_names visible earlier [] = None
new_names visible earlier (x ∷ xs) = first (new_name visible earlier x) (new_names visible (x ∷ earlier) xs)

-- a variable in an expression is a visible one
abbrev pub variable_fault : Context → Ident → Option ScopeFault
variable_fault p x = unless (is_among (visible_variables p) x) (UnknownName (text_of x))

abbrev pub known_collection : List Held → List ℕ → Option ScopeFault
known_collection held c = unless (is_some (collection_index held c)) (UnknownCollection c)

abbrev pub known_collections : List Held → List (List ℕ) → Option ScopeFault
known_collections held [] = None
known_collections held (c ∷ cs) = first (known_collection held c) (known_collections held cs)

abbrev pub holds_edges : Option Held → Bool
holds_edges None = false
holds_edges (Some h) = h.info.edge

abbrev pub edge_fault : List Held → List ℕ → Option ℕ → Option ScopeFault
edge_fault held c None = Some (UnknownCollection c)
edge_fault held c (Some number) = unless (holds_edges (slice_get held number)) (NotEdge c)

-- the edge collections of a traversal
abbrev pub edge_collections : List Held → List (List ℕ) → Option ScopeFault
edge_collections held [] = None
edge_collections held (c ∷ cs) =
    first (edge_fault held c (collection_index held c)) (edge_collections held cs)

abbrev pub expr_count : ExprTrees → ℕ
expr_count no_exprs = 0
expr_count (expr_then e es) = suc (expr_count es)

-- a call is judged at the function's name, before its arguments
abbrev pub call_fault : Option FuncName → List ℕ → ℕ → Option ScopeFault
call_fault None name n = Some (UnknownFunction name)
call_fault (Some f) name n = unless (allows f n) (WrongArity name n)

-- LENGTH and COUNT
abbrev pub is_counting : Aggregate → Bool
is_counting count = true
is_counting kind = false

abbrev pub is_given : MaybeExpr → Bool
is_given no_expr = false
is_given (one_expr e) = true

-- an aggregate that counts may have no argument, the others have one
abbrev pub aggregate_fault : Option Aggregate → List ℕ → MaybeExpr → Option ScopeFault
aggregate_fault None name e = Some (UnknownFunction name)
aggregate_fault (Some kind) name e = unless (is_counting kind || is_given e) (WrongArity name 0)

-- a single name after IN is a variable or a collection
abbrev pub source_fault : Context → Ident → Option ScopeFault
source_fault p (Name c) =
    unless (is_among (visible_variables p) (Name c) || is_some (collection_index p.held c))
    (UnknownCollection c)
source_fault p (Num k) = variable_fault p (Num k)

-- the names after KEEP are variables of the same query
abbrev pub keep_fault : List Ident → List (List ℕ) → Option ScopeFault
keep_fault own [] = None
keep_fault own (n ∷ ns) = first (unless (is_among own (Name n)) (UnknownName n)) (keep_fault own ns)

-- vertex, edge and path of a traversal
abbrev pub traversal_variables : TraversalShape → List Ident
traversal_variables w = w.vertex ∷ (option_to_list w.edge ++ option_to_list w.path)

-- what one setting shows, and the settings with it
abbrev pub setting_fault : List ℕ → Option Written → Option ScopeFault
setting_fault name None = Some (BadOption name)
setting_fault name (Some w) = unless (agree w.order w.bfs) (BadOption (codes "order"))

abbrev pub settings_after : Written → Option Written → Written
settings_after w None = w
settings_after w (Some now) = now

-- the value of a setting that is a literal
abbrev pub setting_of : List ℕ → ExprTree → Written → Option Written
setting_of name (literal v) w = with_setting name v w
setting_of name e w = None

abbrev mutual
  pub in_expr : Context → ExprTree → Option ScopeFault
  in_expr p (literal v) = None
  in_expr p (variable x) = variable_fault p x
  in_expr p current = None
  in_expr p (array_literal es) = in_exprs p es
  in_expr p (object_literal ms) = in_members p ms
  in_expr p (access e ss) = first (in_expr p e) (in_steps p ss)
  in_expr p (function_call name es) =
      first (call_fault (function_named name) name (expr_count es)) (in_exprs p es)
  in_expr p (unary_of op e) = in_expr p e
  in_expr p (chain e ls) = first (in_expr p e) (in_links p ls)
  in_expr p (array_comparison e kind op f) = first (in_expr p e) (in_expr p f)
  in_expr p (ternary test chosen other) = first (in_expr p test) (first (in_maybe p chosen) (in_expr p other))
  in_expr p (range_of e f) = first (in_expr p e) (in_expr p f)
  in_expr p (subquery q) = first (unless p.lifts SubqueryNotAllowed) (in_query (within_subquery p) q)

  pub in_exprs : Context → ExprTrees → Option ScopeFault
  in_exprs p no_exprs = None
  in_exprs p (expr_then e es) = first (in_expr p e) (in_exprs p es)

  pub in_maybe : Context → MaybeExpr → Option ScopeFault
  in_maybe p no_expr = None
  in_maybe p (one_expr e) = in_expr p e

  pub in_members : Context → MemberTrees → Option ScopeFault
  in_members p no_members = None
  in_members p (named_then name e ms) = first (in_expr p e) (in_members p ms)
  in_members p (computed_then k e ms) = first (in_expr p k) (first (in_expr p e) (in_members p ms))

  pub in_steps : Context → StepTrees → Option ScopeFault
  in_steps p no_steps = None
  in_steps p (name_then name ss) = in_steps p ss
  in_steps p (at_then e ss) = first (in_expr p e) (in_steps p ss)
  in_steps p (inline_then filter gives ss) =
      first (in_maybe (inline p) filter) (first (in_maybe (inline p) gives) (in_steps p ss))

  pub in_links : Context → LinkTrees → Option ScopeFault
  in_links p no_links = None
  in_links p (link_then op e ls) = first (in_expr p e) (in_links p ls)

  -- the settings of a traversal, where w are those before them: first the parts of each, then what it shows
  pub in_settings : Context → Written → MemberTrees → Option ScopeFault
  in_settings p w no_members =
      unless (global_fits w.vertices (is_breadth_first w.order w.bfs)) (BadOption (codes "uniqueVertices"))
  in_settings p w (named_then name e ms) =
      first (in_expr p e) (first (setting_fault name (setting_of name e w))
      (in_settings p (settings_after w (setting_of name e w)) ms))
  in_settings p w (computed_then k e ms) =
      first (in_expr p k) (first (in_expr p e) (Some (BadOption (codes "computed"))))

  -- the criteria with their variables, where these were declared earlier in the same COLLECT
  pub in_criteria : Context → List Ident → List Ident → ExprTrees → Option ScopeFault
  in_criteria p earlier xs no_exprs = new_names (visible_variables p) earlier xs
  in_criteria p earlier [] (expr_then e es) = first (in_expr p e) (in_criteria p earlier [] es)
  in_criteria p earlier (x ∷ xs) (expr_then e es) =
      first (new_name (visible_variables p) earlier x)
      (first (in_expr p e) (in_criteria p (x ∷ earlier) xs es))

  pub in_aggregates : Context → List Ident → AggregateTrees → Option ScopeFault
  in_aggregates p earlier no_aggregates = None
  in_aggregates p earlier (aggregate_then x name e gs) =
      first (new_name (visible_variables p) earlier x) (first (aggregate_fault (aggregate_named name) name e)
      (first (in_maybe p e) (in_aggregates p (x ∷ earlier) gs)))

  pub in_into : Context → List Ident → IntoTree → Option ScopeFault
  in_into p earlier no_into = None
  in_into p earlier (into x what keep) =
      first (new_name (visible_variables p) earlier x) (first (in_maybe p what) (keep_fault p.own keep))

  pub in_clause : Context → ClauseTree → Option ScopeFault
  in_clause p (for_each x (variable c)) = first (new_name (visible_variables p) [] x) (source_fault p c)
  in_clause p (for_each x e) = first (new_name (visible_variables p) [] x) (in_expr p e)
  in_clause p (for_documents x c) = first (new_name (visible_variables p) [] x) (known_collection p.held c)
  in_clause p (traversal w e cs prune settings) =
      first (new_names (visible_variables p) [] (traversal_variables w))
      (first (unless (nat_le w.min w.max) (BadOption (codes "depth")))
      (first (in_expr p e) (first (edge_collections p.held cs)
      (first (in_maybe (inline (after_clause (traversal w e cs prune settings) p)) prune)
      (in_settings (inline p) no_settings settings)))))
  in_clause p (filter_by e) = in_expr p e
  in_clause p (let_be x e) = first (new_name (visible_variables p) [] x) (in_expr p e)
  in_clause p (sort_by directions es) = in_exprs p es
  in_clause p (limit offset n) = None
  in_clause p (collect xs es gs i) =
      first (in_criteria p [] xs es) (first (in_aggregates p (onto xs []) gs)
      (in_into p (onto (aggregate_vars gs) (onto xs [])) i))

  -- the place is that of the query's opening
  pub in_query : Context → QueryTree → Option ScopeFault
  in_query p (query with cs distinct e) =
      first (known_collections p.held with) (first (in_clauses p cs) (in_expr (after_clauses cs p) e))

  pub in_clauses : Context → ClauseTrees → Option ScopeFault
  in_clauses p no_clauses = None
  in_clauses p (clause_then c cs) = first (in_clause p c) (in_clauses (after_clause c p) cs)

-- the place of a query that stands in no other
abbrev pub outermost : List Held → Context
outermost held = record { own = []; outer = []; held = held; lifts = true }

-- the first fault of a whole query over these collections
abbrev pub first_fault : List Held → QueryTree → Option ScopeFault
first_fault held q = in_query (outermost held) q
