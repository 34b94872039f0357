-- The texts of expressions, of each node with each of its options, and of whole plans, worked out by hand.
use Rattle.std.specs.Prelude.{ℕ, pos, negsuc, ◌≡◌, List, [], ◌∷◌, ◌++◌, map, option_map, Bool, true, false, codes, Option, Some, None}
use Prim.Native.String.{String}
use Rattle.aql_value.specs.Datum.{number, text, boolean, null}
use Rattle.aql_value.specs.Contents.{list}
use Rattle.aql_value.specs.declared.operators.BinOp.{BinOp}
use Rattle.aql_value.specs.declared.operators.BinOp.TheVariants as op
use Rattle.aql_value.specs.declared.operators.UnaryOp.TheVariants as unary
use Rattle.aql_tree.specs.declared.syntax.Ident.TheVariants.{Num}
use Rattle.aql_tree.specs.declared.syntax.QuantKind.TheVariants as quant
use Rattle.aql_tree.specs.declared.syntax.Direction.{Direction}
use Rattle.aql_tree.specs.declared.syntax.Direction.TheVariants as direction
use Rattle.aql_tree.specs.declared.syntax.UniqueEdges.TheVariants as edges
use Rattle.aql_tree.specs.declared.syntax.UniqueVertices.TheVariants as vertices
use Rattle.aql_tree.specs.Tree.{TraversalOptions, ExprTree, literal, variable, current, unary_of}
use Rattle.aql_tree.specs.Tree.{array_comparison, range_of, no_exprs, MaybeExpr, no_expr, one_expr}
use Rattle.aql_tree.specs.Tree.{no_aggregates, no_into, into}
use Rattle.aql_tree.specs.View.{named, computed, name, at, inline, trees, aggregates}
use Rattle.aql_tree.specs.Build as build
use Rattle.aql_meaning.specs.declared.grouping.Stage.TheVariants as stage
use Rattle.aql_meaning.specs.Documents.{no_last, one_of, between, End}
use Rattle.aql_plan.specs.declared.facts.Facts.{Facts}
use Rattle.aql_plan.specs.declared.facts.IndexFact.{IndexFact}
use Rattle.aql_plan.specs.declared.facts.IndexKind.{IndexKind}
use Rattle.aql_plan.specs.declared.facts.IndexKind.TheVariants as kind
use Rattle.aql_plan.specs.declared.rules.RuleName.{RuleName}
use Rattle.aql_plan.specs.declared.rules.RuleName.TheVariants as rule
use Rattle.aql_plan.specs.Plan.{Reading, Plan, Singleton, Over, Node, EnumerateCollection, Index, EnumerateList}
use Rattle.aql_plan.specs.Plan.{Traversal, Calculation, Subquery, Filter, Sort, Limit, Collect, Return, NoResults}
use Rattle.aql_plan.specs.Plan.{Scatter, Distribute, Remote, Gather}
use Rattle.aql_show.specs.Exprs.{expr_text}
use Rattle.aql_show.specs.Nodes.{node_text}
use Rattle.aql_show.specs.PlanText.{ended, plan_text}

-- ---- names and collections

-- the variables 1 to 5
abbrev pub names : List (List ℕ)
names = codes "x" ∷ codes "e" ∷ codes "p" ∷ codes "filter" ∷ codes "a b" ∷ []

abbrev index : IndexKind → List (List ℕ) → IndexFact
index k attributes = record { kind = k; attributes = attributes; widths = [] }

-- the collection c, and the edge collection e-c
abbrev pub facts : Facts
facts = record {
  servers = 0;
  collections = record {
    name = codes "c";
    edge = false;
    documents = 3;
    shards = 3;
    keys = codes "_key" ∷ [];
    indexes = index kind.Primary (codes "_key" ∷ []) ∷ index kind.Sorted (codes "a" ∷ codes "b" ∷ [])
        ∷ index kind.Sorted (codes "Return" ∷ codes "1st" ∷ []) ∷ [];
  } ∷ record {
    name = codes "e-c";
    edge = true;
    documents = 0;
    shards = 1;
    keys = codes "_key" ∷ [];
    indexes = index kind.Edge (codes "_from" ∷ []) ∷ [];
  } ∷ [];
}

-- ---- expressions

abbrev pub int : ℕ → ExprTree
int n = literal (number (pos n))

abbrev pub txt : String → ExprTree
txt s = literal (text (codes s))

abbrev pub x : ExprTree
x = variable (Num 1)

abbrev pub dot : ExprTree → String → ExprTree
dot e attribute = build.with_steps e (name (codes attribute)) []

-- `left op right`
abbrev pub binary : ExprTree → BinOp → ExprTree → ExprTree
binary left o right = build.with_links left (build.link o right) []

-- each expression has its text
abbrev pub ExprsPrint : List (ExprTree × String) → Type 0
ExprsPrint rows = map (λ (row : ExprTree × String). expr_text names row.0) rows
    ≡ map (λ (row : ExprTree × String). codes row.1) rows

-- ---- nodes

abbrev pub reading : ℕ → MaybeExpr → Option (List (List ℕ)) → Option ℕ → Reading
reading coll filter attributes shard =
    record { var = Num 1; coll = coll; filter = filter; attrs = attributes; shard = shard }

-- all of the documents of c
abbrev pub whole : Reading
whole = reading 0 no_expr None None

abbrev pub end : Bool → ExprTree → Option (End ExprTree)
end inclusive e = Some (record { limit = e; inclusive = inclusive })

abbrev pub traversal : Option ℕ → Option ℕ → Direction → TraversalOptions → List ℕ → MaybeExpr → MaybeExpr
    → Node
traversal edge path way options colls prune filter = Traversal (record {
  vertex = Num 1;
  edge = option_map (λ n. Num n) edge;
  path = option_map (λ n. Num n) path;
  min = 1;
  max = 2;
  direction = way;
  options = options;
}) x colls prune filter

-- each node has its text
abbrev pub NodesPrint : List (Node × String) → Type 0
NodesPrint rows = map (λ (row : Node × String). node_text names facts row.0) rows
    ≡ map (λ (row : Node × String). codes row.1) rows

-- ---- plans

-- the lines of a plan's text
abbrev pub Prints : Plan → List RuleName → ℕ → List (List ℕ) → Type 0
Prints p applied cost lines = plan_text names facts p applied cost ≡ ended lines

abbrev pub over : Plan → List Node → Plan
over p [] = p
over p (n ∷ ns) = over (Over p n) ns

pub record WorkedTexts : Type 0 where
  pub literals : ExprsPrint ((literal null, "null") ∷ (literal (boolean true), "true")
      ∷ (literal (number (negsuc 8)), "-9")
      ∷ (txt "a\"\\", "\"a\\\"\\\\\"")
      ∷ (literal (list (number (pos 1) ∷ text (codes "b") ∷ [])), "[1,\"b\"]") ∷ [])
  pub names_of_variables : ExprsPrint ((x, "x#1") ∷ (variable (Num 4), "`filter`#4")
      ∷ (variable (Num 5), "`a b`#5") ∷ (current, "CURRENT") ∷ [])
  pub lists : ExprsPrint ((build.list [], "[]") ∷ (build.list (int 1 ∷ x ∷ []), "[1, x#1]")
      ∷ (build.object [], "{}")
      ∷ (build.object (named (codes "for") (int 1) ∷ computed x (int 2) ∷ []), "{\"for\": 1, [x#1]: 2}") ∷ [])
  pub accesses : ExprsPrint ((dot x "a", "x#1.a") ∷ (dot (dot x "sort") "_b", "x#1.`sort`._b")
      ∷ (build.with_steps x (at (int 1)) (name (codes "0") ∷ []), "x#1[1].`0`")
      ∷ (build.with_steps x (inline None None) [], "x#1[*]")
      ∷ (build.with_steps x (inline (Some current) (Some (int 2))) [], "x#1[* FILTER CURRENT RETURN 2]") ∷ [])
  pub calls : ExprsPrint ((build.call (codes "length") [], "LENGTH()")
      ∷ (build.call (codes "Sorted_Unique") (x ∷ int 1 ∷ []), "SORTED_UNIQUE(x#1, 1)") ∷ [])
  pub signs : ExprsPrint ((unary_of unary.Plus x, "(+x#1)") ∷ (unary_of unary.Minus x, "(-x#1)")
      ∷ (unary_of unary.Not (unary_of unary.Not x), "(!(!x#1))") ∷ [])
  pub chains : ExprsPrint (
      (build.with_links x (build.link op.And (int 1)) (build.link op.And (int 2) ∷ []), "(x#1 && 1 && 2)")
      ∷ (binary (binary x op.Add (int 1)) op.Mul (int 2), "((x#1 + 1) * 2)") ∷ [])
  pub operators : ExprsPrint ((binary x op.Or x, "(x#1 || x#1)") ∷ (binary x op.Eq x, "(x#1 == x#1)")
      ∷ (binary x op.Ne x, "(x#1 != x#1)") ∷ (binary x op.Lt x, "(x#1 < x#1)")
      ∷ (binary x op.Le x, "(x#1 <= x#1)")
      ∷ (binary x op.Gt x, "(x#1 > x#1)") ∷ (binary x op.Ge x, "(x#1 >= x#1)")
      ∷ (binary x op.IsIn x, "(x#1 IN x#1)")
      ∷ (binary x op.NotIn x, "(x#1 NOT IN x#1)") ∷ (binary x op.Like x, "(x#1 LIKE x#1)")
      ∷ (binary x op.NotLike x, "(x#1 NOT LIKE x#1)") ∷ (binary x op.Sub x, "(x#1 - x#1)")
      ∷ (binary x op.Div x, "(x#1 / x#1)") ∷ (binary x op.Rem x, "(x#1 % x#1)") ∷ [])
  pub others : ExprsPrint ((array_comparison x quant.All op.Eq (int 1), "(x#1 ALL == 1)")
      ∷ (array_comparison x quant.Any op.NotIn (int 1), "(x#1 ANY NOT IN 1)")
      ∷ (array_comparison x quant.None op.Gt (int 1), "(x#1 NONE > 1)")
      ∷ (build.conditional x (Some (int 1)) (int 2), "(x#1 ? 1 : 2)")
      ∷ (build.conditional x None (int 2), "(x#1 ? : 2)") ∷ (range_of (int 1) x, "(1..x#1)") ∷ [])
  pub enumerations : NodesPrint ((EnumerateCollection whole, "EnumerateCollection x#1 IN c")
      ∷ (
        EnumerateCollection (reading 0 (one_expr x) (Some (codes "a" ∷ codes "b-c" ∷ [])) (Some 2)),
        "EnumerateCollection x#1 IN c FILTER x#1 KEEP a,`b-c` SHARD 2",
      )
      ∷ (EnumerateCollection (reading 1 no_expr (Some []) None), "EnumerateCollection x#1 IN `e-c` KEEP")
      ∷ (EnumerateList (Num 1) (build.list []), "EnumerateList x#1 IN []") ∷ [])
  pub lookups : NodesPrint ((
    Index whole 0 (trees (txt "k" ∷ [])) no_last None,
    "Index x#1 IN c USING primary(_key) (x#1._key == \"k\")",
  )
      ∷ (
        Index (reading 1 no_expr None (Some 0)) 0 no_exprs (one_of (build.list [])) None,
        "Index x#1 IN `e-c` USING edge(_from) (x#1._from IN []) SHARD 0",
      ) ∷ [])
  pub indexes : NodesPrint ((
    Index whole 1 no_exprs no_last (Some false),
    "Index x#1 IN c USING sorted(a,b) () ASC",
  )
      ∷ (
        Index (reading 0 (one_expr x) (Some (codes "a" ∷ [])) None) 1 (trees (int 1 ∷ []))
            (between (end true (int 2)) (end false (int 3))) (Some true),
        "Index x#1 IN c USING sorted(a,b) (x#1.a == 1 && x#1.b >= 2 && x#1.b < 3) DESC FILTER x#1 KEEP a",
      )
      ∷ (
        Index whole 1 no_exprs (between (end false (int 2)) None) None,
        "Index x#1 IN c USING sorted(a,b) (x#1.a > 2)",
      )
      ∷ (
        Index whole 1 no_exprs (between None (end true (int 2))) None,
        "Index x#1 IN c USING sorted(a,b) (x#1.a <= 2)",
      )
      ∷ (
        Index whole 2 (trees (int 1 ∷ int 2 ∷ [])) no_last None,
        "Index x#1 IN c USING sorted(`Return`,`1st`) (x#1.`Return` == 1 && x#1.`1st` == 2)",
      ) ∷ [])
  pub traversals : NodesPrint ((
    traversal None None direction.Outbound build.default_options (1 ∷ []) no_expr (one_expr (int 1)),
    "Traversal x#1 IN 1..2 OUTBOUND x#1 `e-c` uniqueEdges=path uniqueVertices=none order=dfs FILTER 1",
  )
      ∷ (
        traversal (Some 2) None direction.Any (record build.default_options { vertices = vertices.Path })
            (1 ∷ 0 ∷ []) (one_expr (int 1)) no_expr,
        "Traversal x#1, e#2 IN 1..2 ANY x#1 `e-c`,c PRUNE 1 uniqueEdges=path uniqueVertices=path order=dfs",
      )
      ∷ (
        traversal None (Some 3) direction.Inbound
            (record { edges = edges.None; vertices = vertices.Global; bfs = true }) (1 ∷ []) no_expr no_expr,
        "Traversal x#1, _, p#3 IN 1..2 INBOUND x#1 `e-c` uniqueEdges=none uniqueVertices=global order=bfs",
      )
      ∷ (
        traversal (Some 2) (Some 3) direction.Outbound build.default_options (1 ∷ []) no_expr no_expr,
        "Traversal x#1, e#2, p#3 IN 1..2 OUTBOUND x#1 `e-c` uniqueEdges=path uniqueVertices=none order=dfs",
      )
      ∷ [])
  pub rows : NodesPrint ((Calculation (Num 2) x, "Calculation e#2 = x#1")
      ∷ (Subquery (Num 2) Singleton, "Subquery e#2") ∷ (Filter x, "Filter x#1") ∷ (Limit 0 10, "Limit 0, 10")
      ∷ (Return false x, "Return x#1") ∷ (Return true x, "Return DISTINCT x#1") ∷ (NoResults, "NoResults")
      ∷ [])
  pub sorts : NodesPrint ((Sort (false ∷ []) (trees (x ∷ [])) None, "Sort x#1 ASC")
      ∷ (
        Sort (true ∷ false ∷ []) (trees (dot x "a" ∷ x
            ∷ [])) (Some 3),
        "Sort x#1.a DESC, x#1 ASC LIMIT 3",
      ) ∷ [])
  pub groups : NodesPrint ((
    Collect [] no_exprs no_aggregates (into (Num 2) (one_expr x) []) stage.Whole,
    "Collect INTO e#2 = x#1",
  )
      ∷ (
        Collect (Num 2 ∷ Num 3 ∷ []) (trees (x ∷ int 1 ∷ [])) no_aggregates no_into stage.Partial,
        "Collect PARTIAL e#2 = x#1, p#3 = 1",
      )
      ∷ (
        Collect [] no_exprs (aggregates ((Num 2, codes "sum", Some x) ∷ (Num 3, codes "LENGTH", None) ∷ []))
            no_into stage.Final,
        "Collect FINAL AGGREGATE e#2 = SUM(x#1), p#3 = LENGTH()",
      )
      ∷ (
        Collect (Num 2 ∷ []) (trees (x ∷ [])) (aggregates ((Num 3, codes "MAX", Some x) ∷ []))
            (into (Num 4) (one_expr (int 1)) []) stage.Whole,
        "Collect e#2 = x#1 AGGREGATE p#3 = MAX(x#1) INTO `filter`#4 = 1",
      ) ∷ [])
  pub cluster : NodesPrint ((Scatter 0 None, "Scatter c") ∷ (Scatter 1 (Some 0), "Scatter `e-c` SHARD 0")
      ∷ (Distribute 0 (trees (x ∷ int 1 ∷ [])), "Distribute c (x#1, 1)") ∷ (Remote, "Remote")
      ∷ (Gather [] no_exprs, "Gather") ∷ (Gather (true ∷ []) (trees (x ∷ [])), "Gather x#1 DESC") ∷ [])
  pub by_an_index : Prints (over Singleton (Index (reading 0 no_expr (Some (codes "b" ∷ [])) None) 1
      (trees (int 1 ∷ [])) no_last None ∷ Return false (dot x "b") ∷ []))
      (rule.UseIndexes ∷ rule.RemoveFilterCoveredByIndex ∷ rule.ReduceExtractionToProjection ∷ []) 4
      (codes "plan" ∷ codes "  1 Singleton"
      ∷ codes "  2 Index x#1 IN c USING sorted(a,b) (x#1.a == 1) KEEP b"
      ∷ codes "  3 Return x#1.b"
      ∷ codes "rules use-indexes, remove-filter-covered-by-index, reduce-extraction-to-projection"
      ∷ codes "cost 4" ∷ [])
  pub over_shards : Prints (over Singleton (Scatter 0 None ∷ Remote ∷ EnumerateCollection whole ∷ Remote
      ∷ Gather [] no_exprs ∷ Filter (binary (dot x "a") op.Eq (int 1)) ∷ Return false (dot x "b") ∷ []))
      (rule.ScatterInCluster ∷ []) 13
      (codes "plan" ∷ codes "  1 Singleton" ∷ codes "  2 Scatter c" ∷ codes "  3 Remote"
      ∷ codes "  4 EnumerateCollection x#1 IN c" ∷ codes "  5 Remote" ∷ codes "  6 Gather"
      ∷ codes "  7 Filter (x#1.a == 1)" ∷ codes "  8 Return x#1.b" ∷ codes "rules scatter-in-cluster"
      ∷ codes "cost 13" ∷ [])
  pub with_a_filter : Prints (over Singleton (EnumerateCollection (reading 0
      (one_expr (binary (dot x "a") op.IsIn (build.list (int 1 ∷ int 2 ∷ []))))
      (Some (codes "b" ∷ [])) None) ∷ Return false (dot x "b") ∷ []))
      (rule.MoveFiltersUp ∷ rule.RemoveUnnecessaryFilters ∷ rule.ReplaceOrWithIn
      ∷ rule.MoveFiltersIntoEnumerate ∷ rule.ReduceExtractionToProjection ∷ []) 4
      (codes "plan" ∷ codes "  1 Singleton"
      ∷ codes "  2 EnumerateCollection x#1 IN c FILTER (x#1.a IN [1, 2]) KEEP b"
      ∷ codes "  3 Return x#1.b"
      ∷ (codes "rules move-filters-up, remove-unnecessary-filters, replace-or-with-in, "
      ++ codes "move-filters-into-enumerate, reduce-extraction-to-projection")
      ∷ codes "cost 4" ∷ [])
  -- a body's lines stand after its Subquery, and their numbers go on
  pub with_bodies : Prints (over Singleton (Subquery (Num 1)
      (over Singleton (Subquery (Num 2) (over Singleton (Return false (int 1) ∷ [])) ∷ Return false (int 2)
      ∷ []))
      ∷ Filter x ∷ Return false x ∷ []))
      [] 18446744073709551615
      (codes "plan" ∷ codes "  1 Singleton" ∷ codes "  2 Subquery x#1" ∷ codes "    3 Singleton"
      ∷ codes "    4 Subquery e#2" ∷ codes "      5 Singleton" ∷ codes "      6 Return 1"
      ∷ codes "    7 Return 2"
      ∷ codes "  8 Filter x#1" ∷ codes "  9 Return x#1" ∷ codes "rules none"
      ∷ codes "cost 18446744073709551615" ∷ [])
