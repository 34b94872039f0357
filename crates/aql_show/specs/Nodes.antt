-- Each node of a plan as one line writes it, in the words of the clauses that it comes from (High-level
-- operations; Execution and performance: the execution plan).
use Rattle.std.specs.Prelude.{ℕ, List, [], ◌∷◌, ◌++◌, map, codes, Bool, cond, Option, Some, None, slice_get}
use Rattle.std.specs.Fmt.{decimal}
use Rattle.aql_value.specs.declared.operators.BinOp.{BinOp}
use Rattle.aql_value.specs.declared.operators.BinOp.TheVariants as op
use Rattle.aql_tree.specs.declared.syntax.Ident.{Ident}
use Rattle.aql_tree.specs.declared.syntax.Direction.{Direction}
use Rattle.aql_tree.specs.Tree.{TraversalOptions, ExprTree, ExprTrees, no_exprs, expr_then, MaybeExpr}
use Rattle.aql_tree.specs.Tree.{AggregateTrees, no_aggregates, aggregate_then, IntoTree, no_into, into}
use Rattle.aql_meaning.specs.declared.grouping.Stage.{Stage}
use Rattle.aql_meaning.specs.declared.grouping.Stage.TheVariants as stage
use Rattle.aql_meaning.specs.Documents.{Last, no_last, one_of, between, End}
use Rattle.aql_plan.specs.declared.facts.Facts.{Facts}
use Rattle.aql_plan.specs.declared.facts.IndexFact.{IndexFact}
use Rattle.aql_plan.specs.Facts.{indexes_in, attributes_in}
use Rattle.aql_plan.specs.Plan.{Node, EnumerateCollection, Index, EnumerateList, Traversal, Calculation}
use Rattle.aql_plan.specs.Plan.{Subquery, Filter, Sort, Limit, Collect, Return, NoResults, Scatter, Distribute}
use Rattle.aql_plan.specs.Plan.{Remote, Gather}
use Rattle.aql_show.specs.Lists.{listed, in_brackets, number_after}
use Rattle.aql_show.specs.Names.{name_text, variable_text, collection_text}
use Rattle.aql_show.specs.Words.{right_text, direction_text, edges_text, vertices_text, order_text, kind_text, sorting_text}
use Rattle.aql_show.specs.Exprs.{function_text, expr_text, expr_texts, maybe_text}

-- a stage of COLLECT
abbrev pub stage_text : Stage → List ℕ
stage_text stage.Whole = []
stage_text stage.Partial = codes " PARTIAL"
stage_text stage.Final = codes " FINAL"

abbrev pub distinct_text : Bool → List ℕ
distinct_text distinct = cond distinct (codes "DISTINCT ") []

-- KEEP with the attributes that are kept of a document
abbrev pub keep_text : Option (List (List ℕ)) → List ℕ
keep_text None = []
keep_text (Some attributes) = codes " KEEP" ++ listed (codes " ") (codes ",") (map name_text attributes)

-- an index with its attributes
abbrev pub index_text : Option IndexFact → List ℕ
index_text None = []
index_text (Some i) = kind_text i.kind ++ in_brackets (listed [] (codes ",") (map name_text i.attributes))

-- an attribute of a document, whose text stands before it
abbrev pub attribute_text : List ℕ → List ℕ → List ℕ
attribute_text document a = document ++ codes "." ++ name_text a

-- a shard, where one is named
abbrev pub shard_text : Option ℕ → List ℕ
shard_text shard = number_after (codes " SHARD ") shard

-- the order of an index, where it is kept
abbrev pub ordered_text : Option Bool → List ℕ
ordered_text None = []
ordered_text (Some descending) = sorting_text descending

-- the depths of a traversal
abbrev pub depths_text : ℕ → ℕ → List ℕ
depths_text least most = codes " IN " ++ decimal least ++ codes ".." ++ decimal most

-- the options of a traversal
abbrev pub options_text : TraversalOptions → List ℕ
options_text o = codes " uniqueEdges=" ++ edges_text o.edges ++ codes " uniqueVertices="
    ++ vertices_text o.vertices ++ codes " order=" ++ order_text o.bfs

-- `names` has the names of the variables
module _ (names : List (List ℕ)) where
  abbrev pub var : Ident → List ℕ
  var x = variable_text names x

  abbrev pub expr : ExprTree → List ℕ
  expr e = expr_text names e

  -- a filter, the attributes that are kept, and a shard, those that are there
  abbrev pub reading_text : MaybeExpr → Option (List (List ℕ)) → Option ℕ → List ℕ
  reading_text filter attributes shard =
      maybe_text names (codes " FILTER ") filter ++ keep_text attributes ++ shard_text shard

  -- an end of a range, with the operator where it belongs to the range, and where it doesn't
  abbrev pub end_texts : List ℕ → BinOp → BinOp → Option (End ExprTree) → List (List ℕ)
  end_texts attribute inclusive strict None = []
  end_texts attribute inclusive strict (Some e) =
      (attribute ++ right_text (cond e.inclusive inclusive strict) (expr e.limit)) ∷ []

  abbrev pub last_texts : List ℕ → Last ExprTree → List (List ℕ)
  last_texts attribute no_last = []
  last_texts attribute (one_of e) = (attribute ++ right_text op.IsIn (expr e)) ∷ []
  last_texts attribute (between low high) =
      end_texts attribute op.Ge op.Gt low ++ end_texts attribute op.Le op.Lt high

  -- the bounds of an index, in the order of its attributes
  abbrev pub bound_texts : List ℕ → List (List ℕ) → ExprTrees → Last ExprTree → List (List ℕ)
  bound_texts document [] equal last = []
  bound_texts document (a ∷ attributes) (expr_then e equal) last =
      (attribute_text document a ++ right_text op.Eq (expr e)) ∷ bound_texts document attributes equal last
  bound_texts document (a ∷ attributes) no_exprs last = last_texts (attribute_text document a) last

  -- the keys of a sort, each with its direction
  abbrev pub key_texts : List Bool → ExprTrees → List (List ℕ)
  key_texts (descending ∷ more) (expr_then e es) = (expr e ++ sorting_text descending) ∷ key_texts more es
  key_texts directions es = []

  abbrev pub keys_text : List Bool → ExprTrees → List ℕ
  keys_text directions es = listed (codes " ") (codes ", ") (key_texts directions es)

  -- `x = e`
  abbrev pub let_text : Ident → ExprTree → List ℕ
  let_text x e = var x ++ codes " = " ++ expr e

  abbrev pub let_texts : List Ident → ExprTrees → List (List ℕ)
  let_texts (x ∷ xs) (expr_then e es) = let_text x e ∷ let_texts xs es
  let_texts xs es = []

  -- `x = SUM(e)`
  abbrev pub aggregate_texts : AggregateTrees → List (List ℕ)
  aggregate_texts no_aggregates = []
  aggregate_texts (aggregate_then x name e rest) =
      (var x ++ codes " = " ++ function_text name ++ in_brackets (maybe_text names [] e))
      ∷ aggregate_texts rest

  abbrev pub into_text : IntoTree → List ℕ
  into_text no_into = []
  into_text (into x what keep) = codes " INTO " ++ var x ++ maybe_text names (codes " = ") what

  -- the variables of a traversal; where there is a path and no edge, `_` stands for the edge
  abbrev pub path_vars_text : Option Ident → Option Ident → List ℕ
  path_vars_text None None = []
  path_vars_text (Some e) None = codes ", " ++ var e
  path_vars_text None (Some p) = codes ", _, " ++ var p
  path_vars_text (Some e) (Some p) = codes ", " ++ var e ++ codes ", " ++ var p

  -- what a traversal sets, its depths and its direction
  abbrev pub walk_text : Ident → Option Ident → Option Ident → ℕ → ℕ → Direction → List ℕ
  walk_text vertex edge path least most direction = var vertex ++ path_vars_text edge path
      ++ depths_text least most ++ codes " " ++ direction_text direction

  -- which paths of a traversal are walked and kept
  abbrev pub paths_text : MaybeExpr → TraversalOptions → MaybeExpr → List ℕ
  paths_text prune options filter = maybe_text names (codes " PRUNE ") prune ++ options_text options
      ++ maybe_text names (codes " FILTER ") filter

  module _ (facts : Facts) where
    -- variable and collection
    abbrev pub source_text : Ident → ℕ → List ℕ
    source_text x coll = var x ++ codes " IN " ++ collection_text facts coll

    -- an index of a collection with its bounds
    abbrev pub use_text : Ident → ℕ → ℕ → ExprTrees → Last ExprTree → List ℕ
    use_text x coll index equal last = codes " USING " ++ index_text (slice_get (indexes_in facts coll) index)
        ++ codes " " ++ in_brackets (listed [] (codes " && ")
        (bound_texts (var x) (attributes_in facts coll index) equal last))

    abbrev pub node_text : Node → List ℕ
    node_text (EnumerateCollection x) = codes "EnumerateCollection " ++ source_text x.var x.coll
        ++ reading_text x.filter x.attrs x.shard
    node_text (Index x index equal last ordered) = codes "Index " ++ source_text x.var x.coll
        ++ use_text x.var x.coll index equal last ++ ordered_text ordered
        ++ reading_text x.filter x.attrs x.shard
    node_text (EnumerateList x e) = codes "EnumerateList " ++ var x ++ codes " IN " ++ expr e
    node_text (Traversal t start colls prune filter) = codes "Traversal "
        ++ walk_text t.vertex t.edge t.path t.min t.max t.direction ++ codes " " ++ expr start
        ++ listed (codes " ") (codes ",") (map (collection_text facts) colls)
        ++ paths_text prune t.options filter
    node_text (Calculation x e) = codes "Calculation " ++ let_text x e
    node_text (Subquery x body) = codes "Subquery " ++ var x
    node_text (Filter e) = codes "Filter " ++ expr e
    node_text (Sort directions es limit) =
        codes "Sort" ++ keys_text directions es ++ number_after (codes " LIMIT ") limit
    node_text (Limit offset count) = codes "Limit " ++ decimal offset ++ codes ", " ++ decimal count
    node_text (Collect xs es gs i s) = codes "Collect" ++ stage_text s
        ++ listed (codes " ") (codes ", ") (let_texts xs es)
        ++ listed (codes " AGGREGATE ") (codes ", ") (aggregate_texts gs) ++ into_text i
    node_text (Return distinct e) = codes "Return " ++ distinct_text distinct ++ expr e
    node_text NoResults = codes "NoResults"
    node_text (Scatter coll only) =
        codes "Scatter " ++ collection_text facts coll ++ shard_text only
    node_text (Distribute coll es) = codes "Distribute " ++ collection_text facts coll ++ codes " "
        ++ in_brackets (listed [] (codes ", ") (expr_texts names es))
    node_text Remote = codes "Remote"
    node_text (Gather directions es) = codes "Gather" ++ keys_text directions es
