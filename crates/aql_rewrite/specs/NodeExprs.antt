-- The expressions of a node, in the order of the plan's text, and the node over other expressions, which are
-- taken in order; where they run out an expression stays as it is. What a body holds is none of them.
use Rattle.std.specs.Prelude.{List, [], ◌∷◌, ◌++◌, Option, Some, None}
use Rattle.aql_tree.specs.Tree.{ExprTree, ExprTrees, no_exprs, expr_then, MaybeExpr}
use Rattle.aql_tree.specs.Tree.{AggregateTrees, no_aggregates, aggregate_then, IntoTree, no_into, into}
use Rattle.aql_meaning.specs.Documents.{End, Last, no_last, one_of, between}
use Rattle.aql_plan.specs.Plan.{Reading, Node, EnumerateCollection, Index, EnumerateList, Traversal}
use Rattle.aql_plan.specs.Plan.{Calculation, Filter, Sort, Collect, Return, Distribute, Gather}
use Rattle.aql_rewrite.specs.Children.{list_children, maybe_children}
use Rattle.aql_rewrite.specs.OverChildren.{first_or, after_first, over_list, over_maybe, after_maybe}

-- ---- which there are

abbrev pub end_exprs : Option (End ExprTree) → List ExprTree
end_exprs None = []
end_exprs (Some e) = e.limit ∷ []

abbrev pub last_exprs : Last ExprTree → List ExprTree
last_exprs no_last = []
last_exprs (one_of e) = e ∷ []
last_exprs (between low high) = end_exprs low ++ end_exprs high

abbrev pub aggregate_exprs : AggregateTrees → List ExprTree
aggregate_exprs no_aggregates = []
aggregate_exprs (aggregate_then x name e rest) = maybe_children e ++ aggregate_exprs rest

abbrev pub into_exprs : IntoTree → List ExprTree
into_exprs no_into = []
into_exprs (into x what keep) = maybe_children what

abbrev pub node_exprs : Node → List ExprTree
node_exprs (EnumerateCollection x) = maybe_children x.filter
node_exprs (Index x index equal last ordered) =
    list_children equal ++ (last_exprs last ++ maybe_children x.filter)
node_exprs (EnumerateList x e) = e ∷ []
node_exprs (Traversal w e colls prune keep) = e ∷ (maybe_children prune ++ maybe_children keep)
node_exprs (Calculation x e) = e ∷ []
node_exprs (Filter e) = e ∷ []
node_exprs (Sort directions es n) = list_children es
node_exprs (Collect xs es gs i s) = list_children es ++ (aggregate_exprs gs ++ into_exprs i)
node_exprs (Return distinct e) = e ∷ []
node_exprs (Distribute coll es) = list_children es
node_exprs (Gather directions es) = list_children es
node_exprs n = []

-- ---- over others, and which of these are left

abbrev pub after_list : ExprTrees → List ExprTree → List ExprTree
after_list no_exprs ps = ps
after_list (expr_then e es) ps = after_list es (after_first ps)

abbrev pub over_end : Option (End ExprTree) → List ExprTree → Option (End ExprTree)
over_end None ps = None
over_end (Some e) ps = Some (record { limit = first_or e.limit ps; inclusive = e.inclusive })

abbrev pub after_end : Option (End ExprTree) → List ExprTree → List ExprTree
after_end None ps = ps
after_end (Some e) ps = after_first ps

abbrev pub over_last : Last ExprTree → List ExprTree → Last ExprTree
over_last no_last ps = no_last
over_last (one_of e) ps = one_of (first_or e ps)
over_last (between low high) ps = between (over_end low ps) (over_end high (after_end low ps))

abbrev pub after_last : Last ExprTree → List ExprTree → List ExprTree
after_last no_last ps = ps
after_last (one_of e) ps = after_first ps
after_last (between low high) ps = after_end high (after_end low ps)

abbrev pub over_aggregates : AggregateTrees → List ExprTree → AggregateTrees
over_aggregates no_aggregates ps = no_aggregates
over_aggregates (aggregate_then x name e rest) ps =
    aggregate_then x name (over_maybe e ps) (over_aggregates rest (after_maybe e ps))

abbrev pub after_aggregates : AggregateTrees → List ExprTree → List ExprTree
after_aggregates no_aggregates ps = ps
after_aggregates (aggregate_then x name e rest) ps = after_aggregates rest (after_maybe e ps)

abbrev pub over_into : IntoTree → List ExprTree → IntoTree
over_into no_into ps = no_into
over_into (into x what keep) ps = into x (over_maybe what ps) keep

abbrev pub over_reading : Reading → List ExprTree → Reading
over_reading x ps = record {
  var = x.var;
  coll = x.coll;
  filter = over_maybe x.filter ps;
  attrs = x.attrs;
  shard = x.shard;
}

abbrev pub over_exprs : Node → List ExprTree → Node
over_exprs (EnumerateCollection x) ps = EnumerateCollection (over_reading x ps)
over_exprs (Index x index equal last ordered) ps =
    Index (over_reading x (after_last last (after_list equal ps))) index (over_list equal ps)
    (over_last last (after_list equal ps)) ordered
over_exprs (EnumerateList x e) ps = EnumerateList x (first_or e ps)
over_exprs (Traversal w e colls prune keep) ps =
    Traversal w (first_or e ps) colls (over_maybe prune (after_first ps))
    (over_maybe keep (after_maybe prune (after_first ps)))
over_exprs (Calculation x e) ps = Calculation x (first_or e ps)
over_exprs (Filter e) ps = Filter (first_or e ps)
over_exprs (Sort directions es n) ps = Sort directions (over_list es ps) n
over_exprs (Collect xs es gs i s) ps = Collect xs (over_list es ps) (over_aggregates gs (after_list es ps))
    (over_into i (after_aggregates gs (after_list es ps))) s
over_exprs (Return distinct e) ps = Return distinct (first_or e ps)
over_exprs (Distribute coll es) ps = Distribute coll (over_list es ps)
over_exprs (Gather directions es) ps = Gather directions (over_list es ps)
over_exprs n ps = n
