-- What the clauses of a query declare, and what a name after IN means (AQL fundamentals, Accessing data from
-- collections; the high-level operation FOR). The variables are read off the text: they are the same for all
-- rows.
use Rattle.std.specs.Prelude.{ℕ, List, [], ◌∷◌, filter, flat_map, cond, not, ◌||◌, bytes_eq, Bool, Option, Some, None, is_some, option_to_list}
use Rattle.std.specs.List.{list_any}
use Rattle.aql_value.specs.Datum.{Datum}
use Rattle.aql_value.specs.Database.{Database, documents_named}
use Rattle.aql_tree.specs.declared.syntax.Ident.{Ident}
use Rattle.aql_tree.specs.declared.syntax.Ident.TheVariants.{Name}
use Rattle.aql_tree.specs.Tree.{ExprTree, variable, ClauseTree, for_each, for_documents, traversal, filter_by, let_be, sort_by, limit, collect, AggregateTrees, no_aggregates, aggregate_then, IntoTree, no_into, into}
use Rattle.aql_meaning.specs.Row.{Row, same_ident}
use Rattle.aql_meaning.specs.Groups.{aggregate_of}

abbrev pub aggregate_vars : AggregateTrees → List Ident
aggregate_vars no_aggregates = []
aggregate_vars (aggregate_then x name e rest) = x ∷ aggregate_vars rest

-- a function for each aggregate, by its name
abbrev pub functions_by : (List ℕ → List Datum → Datum) → AggregateTrees → List (List Datum → Datum)
functions_by of_name no_aggregates = []
functions_by of_name (aggregate_then x name e rest) = of_name name ∷ functions_by of_name rest

-- what each aggregate makes of the values of all members
abbrev pub aggregate_functions : AggregateTrees → List (List Datum → Datum)
aggregate_functions aggregates = functions_by aggregate_of aggregates

abbrev pub into_var : IntoTree → Option Ident
into_var no_into = None
into_var (into x what keep) = Some x

-- the variables xs, set one after another, before those set earlier
abbrev pub onto : List Ident → List Ident → List Ident
onto [] vars = vars
onto (x ∷ xs) vars = onto xs (x ∷ vars)

-- the variables of the query after a clause, the last set first; COLLECT leaves only its own
abbrev pub vars_after : ClauseTree → List Ident → List Ident
vars_after (for_each x e) vars = x ∷ vars
vars_after (for_documents x name) vars = x ∷ vars
vars_after (traversal w e names prune settings) vars =
    onto (option_to_list w.path) (onto (option_to_list w.edge) (w.vertex ∷ vars))
vars_after (filter_by e) vars = vars
vars_after (let_be x e) vars = x ∷ vars
vars_after (sort_by directions es) vars = vars
vars_after (limit offset count) vars = vars
vars_after (collect xs es aggregates i) vars =
    onto (option_to_list (into_var i)) (onto (aggregate_vars aggregates) (onto xs []))

-- whether x is a variable of this query or of the start row
abbrev pub sees : Row → List Ident → Ident → Bool
sees start vars x = list_any (same_ident x) vars || is_some (start x)

-- after IN, a single name that is no visible variable names a collection
abbrev pub collection_meant : ExprTree → Row → List Ident → Option (List ℕ)
collection_meant (variable (Name n)) start vars = cond (sees start vars (Name n)) None (Some n)
collection_meant e start vars = None

-- each name once
abbrev pub each_once : List (List ℕ) → List (List ℕ)
each_once [] = []
each_once (n ∷ ns) = n ∷ filter (λ m. not (bytes_eq n m)) (each_once ns)

-- the edges of these collections; a collection named twice counts once
abbrev pub edges_named : Database → List (List ℕ) → List Datum
edges_named db names = flat_map (documents_named db) (each_once names)
