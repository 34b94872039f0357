-- What the rules see of a plan's top node, and the changes that they make there.
use Rattle.std.specs.Prelude.{Bool, false, is_none, Option, Some, None, option_to_list}
use Rattle.aql_value.specs.Datum.{Datum}
use Rattle.aql_value.specs.declared.operators.BinOp.{BinOp}
use Rattle.aql_value.specs.declared.operators.BinOp.TheVariants.{And}
use Rattle.aql_tree.specs.declared.syntax.Ident.{Ident}
use Rattle.aql_tree.specs.Tree.{ExprTree, literal, MaybeExpr, no_expr, one_expr}
use Rattle.aql_meaning.specs.Uses.{uses}
use Rattle.aql_plan.specs.Plan.{Plan, Singleton, Over, Node, EnumerateCollection, Index, Traversal, Filter, NoResults}
use Rattle.aql_rules_filter.specs.Conditions.{joined}
use Rattle.aql_rules_filter.specs.MoveFiltersIntoEnumerate.{with_condition}
use Rattle.aql_rules_filter.specs.MoveFiltersUp.{none_used}
use Rattle.aql_rules_filter.specs.OptimizeTraversals.{with_vars}

-- the value of a literal
abbrev pub literal_in : ExprTree → Option Datum
literal_in (literal v) = Some v
literal_in e = None

-- an item as a link of an `&&` chain
abbrev pub and_link : ExprTree → BinOp × ExprTree
and_link e = (And, e)

-- the condition of a Filter
abbrev pub cond_in : Node → Option ExprTree
cond_in (Filter e) = Some e
cond_in n = None

-- a Filter at the top of a plan: its input and its condition
abbrev pub filter_in : Plan → Option (Plan × ExprTree)
filter_in (Over b (Filter e)) = Some (b, e)
filter_in p = None

-- a node that reads documents and keeps all their attributes
abbrev pub keeps_all : Node → Bool
keeps_all (EnumerateCollection x) = is_none x.attrs
keeps_all (Index x index equal last ordered) = is_none x.attrs
keeps_all n = false

-- ---- a Filter goes into the node below it

-- a node that tests a condition too; a Traversal tests it alone
abbrev pub narrowed : Node → ExprTree → Node
narrowed (Filter own) e = Filter (joined (one_expr own) e)
narrowed (EnumerateCollection x) e = EnumerateCollection (with_condition x e)
narrowed (Index x index equal last ordered) e = Index (with_condition x e) index equal last ordered
narrowed (Traversal w start colls prune filter) e = Traversal w start colls prune (one_expr e)
narrowed n e = n

abbrev pub plan_narrowed : Plan → ExprTree → Plan
plan_narrowed Singleton e = Singleton
plan_narrowed (Over b n) e = Over b (narrowed n e)

abbrev pub pushed : Plan → Plan
pushed (Over b (Filter e)) = plan_narrowed b e
pushed p = p

-- ---- a Filter becomes NoResults

abbrev pub emptied : Node → Node
emptied (Filter e) = NoResults
emptied n = n

abbrev pub plan_emptied : Plan → Plan
plan_emptied Singleton = Singleton
plan_emptied (Over b n) = Over b (emptied n)

-- ---- Traversals

-- the variable of the paths of one without a filter
abbrev pub open_path : Node → Option (Option Ident)
open_path (Traversal w start colls prune no_expr) = Some w.path
open_path n = None

-- whether a condition may go into one without a filter
abbrev pub may_go_in : Node → ExprTree → Bool
may_go_in (Traversal w start colls prune no_expr) e = none_used (option_to_list w.path) (uses e)
may_go_in n e = false

-- the variables of edges and paths, PRUNE and the filter
abbrev pub traversal_in : Node → Option (Option Ident × Option Ident × MaybeExpr × MaybeExpr)
traversal_in (Traversal w e colls prune keep) = Some (w.edge, w.path, prune, keep)
traversal_in n = None

-- without a variable for its edges, or for its paths
abbrev pub without_edge : Node → Node
without_edge (Traversal w start colls prune filter) =
    Traversal (with_vars w None w.path) start colls prune filter
without_edge n = n

abbrev pub plan_without_edge : Plan → Plan
plan_without_edge Singleton = Singleton
plan_without_edge (Over b n) = Over b (without_edge n)

abbrev pub without_path : Node → Node
without_path (Traversal w start colls prune filter) =
    Traversal (with_vars w w.edge None) start colls prune filter
without_path n = n

abbrev pub plan_without_path : Plan → Plan
plan_without_path Singleton = Singleton
plan_without_path (Over b n) = Over b (without_path n)
