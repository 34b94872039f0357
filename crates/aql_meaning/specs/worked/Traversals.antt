-- Worked queries: traversals, each with what it prints.
use Rattle.std.specs.Prelude.{ℕ, List, [], ◌∷◌, true, false, Option, Some, None, codes}
use Prim.Native.String.{String}
use Rattle.aql_value.specs.Datum.{Datum, null, boolean}
use Rattle.aql_value.specs.Contents.{list}
use Rattle.aql_value.specs.Database.{Database}
use Rattle.aql_value.specs.declared.operators.BinOp.TheVariants.{Eq}
use Rattle.aql_tree.specs.declared.syntax.Direction.{Direction}
use Rattle.aql_tree.specs.declared.syntax.Direction.TheVariants.{Outbound, Inbound, Any}
use Rattle.aql_tree.specs.Tree.{ExprTree, ClauseTree, QueryTree}
use Rattle.aql_tree.specs.Build as build
use Rattle.aql_tree.specs.View.{MemberPart, named, name, inline, traversal_clause}
use Rattle.aql_meaning.specs.worked.Words.{num, str, document, edge, collection, edge_collection, txt, var, dot, op, fn, returning, Answers, AnswersInAnyOrder}
use Rattle.aql_meaning.specs.worked.Expressions.{items, nothing}

-- `v`, and `v, e, p`
abbrev pub vertex_alone : build.TraversalNames
vertex_alone = record { vertex = codes "v"; edge = None; path = None }

abbrev pub all_three : build.TraversalNames
all_three = record { vertex = codes "v"; edge = Some (codes "e"); path = Some (codes "p") }

-- `FOR names IN min..max DIRECTION start e PRUNE prune OPTIONS {settings}`
abbrev pub traversal_from : build.TraversalNames → ℕ → ℕ → Direction → ExprTree → Option ExprTree
    → List MemberPart
    → ClauseTree
traversal_from names min max direction start prune settings =
    traversal_clause (build.traversal names min max direction start (codes "e" ∷ []) prune settings)

-- the same from the text of an id
abbrev pub traversal : build.TraversalNames → ℕ → ℕ → Direction → String → Option ExprTree → List MemberPart
    → ClauseTree
traversal names min max direction start prune settings =
    traversal_from names min max direction (txt start) prune settings

-- `v._key`
abbrev pub key : ExprTree
key = dot (var "v") "_key"

-- `PRUNE v._key == s`
abbrev pub at_key : String → Option ExprTree
at_key s = Some (op key Eq (txt s))

-- `p.vertices[*]._key`
abbrev pub keys_of_path : ExprTree
keys_of_path =
    build.with_steps (var "p") (name (codes "vertices")) (inline None None ∷ name (codes "_key") ∷ [])

-- `{order: "bfs", uniqueVertices: "global"}`
abbrev pub global : List MemberPart
global = named (codes "order") (txt "bfs") ∷ named (codes "uniqueVertices") (txt "global") ∷ []

-- `{uniqueVertices: "path"}`
abbrev pub each_vertex_once : List MemberPart
each_vertex_once = named (codes "uniqueVertices") (txt "path") ∷ []

-- `{uniqueEdges: "none"}`
abbrev pub edges_again : List MemberPart
edges_again = named (codes "uniqueEdges") (txt "none") ∷ []

-- `{_id: id}`
abbrev pub with_id : String → ExprTree
with_id id = build.object (named (codes "_id") (txt id) ∷ [])

-- `[e == null, LENGTH(p.edges)]`
abbrev pub edges_of_path : ExprTree
edges_of_path = items (op (var "e") Eq nothing ∷ fn "LENGTH" (dot (var "p") "edges" ∷ []) ∷ [])

-- ---- graphs

-- a to b, b to c, c to a
abbrev pub ring : Database
ring = collection "n" (document "n/a" "a" [] ∷ document "n/b" "b" [] ∷ document "n/c" "c" [] ∷ [])
    ∷ edge_collection "e" (edge "e/1" "n/a" "n/b" ∷ edge "e/2" "n/b" "n/c" ∷ edge "e/3" "n/c" "n/a" ∷ []) ∷ []

-- a to b, a to c, b to d, c to d
abbrev pub diamond : Database
diamond =
    collection "n"
    (document "n/a" "a" [] ∷ document "n/b" "b" [] ∷ document "n/c" "c" [] ∷ document "n/d" "d" [] ∷ [])
    ∷ edge_collection "e"
    (edge "e/1" "n/a" "n/b" ∷ edge "e/2" "n/a" "n/c"
    ∷ edge "e/3" "n/b" "n/d" ∷ edge "e/4" "n/c" "n/d" ∷ []) ∷ []

-- a to b, b to c, a to c
abbrev pub shortcut : Database
shortcut = collection "n" (document "n/a" "a" [] ∷ document "n/b" "b" [] ∷ document "n/c" "c" [] ∷ [])
    ∷ edge_collection "e" (edge "e/1" "n/a" "n/b" ∷ edge "e/2" "n/b" "n/c" ∷ edge "e/3" "n/a" "n/c" ∷ []) ∷ []

-- a to a
abbrev pub loop : Database
loop = collection "n" (document "n/a" "a" [] ∷ []) ∷ edge_collection "e" (edge "e/1" "n/a" "n/a" ∷ []) ∷ []

-- a to x, x to b, where no document has the id of x
abbrev pub gap : Database
gap = collection "n" (document "n/a" "a" [] ∷ document "n/b" "b" [] ∷ [])
    ∷ edge_collection "e" (edge "e/1" "n/a" "n/x" ∷ edge "e/2" "n/x" "n/b" ∷ []) ∷ []

abbrev pub path_ab : Datum
path_ab = list (str "a" ∷ str "b" ∷ [])

abbrev pub path_ac : Datum
path_ac = list (str "a" ∷ str "c" ∷ [])

abbrev pub path_abc : Datum
path_abc = list (str "a" ∷ str "b" ∷ str "c" ∷ [])

abbrev pub path_abd : Datum
path_abd = list (str "a" ∷ str "b" ∷ str "d" ∷ [])

abbrev pub path_acd : Datum
path_acd = list (str "a" ∷ str "c" ∷ str "d" ∷ [])

-- FOR v, e, p IN 1..2 OUTBOUND "n/a" e PRUNE .. OPTIONS {order: "bfs", uniqueVertices: "global"}
-- RETURN p.vertices[*]._key
abbrev pub chosen_paths : Option ExprTree → QueryTree
chosen_paths prune = returning (traversal all_three 1 2 Outbound "n/a" prune global ∷ []) keys_of_path

pub record WorkedTraversals : Type 0 where
  -- FOR v IN 1..4 OUTBOUND "n/a" e RETURN v._key
  pub round : AnswersInAnyOrder ring (returning (traversal vertex_alone 1 4 Outbound "n/a" None [] ∷ []) key)
      (str "b" ∷ str "c" ∷ str "a" ∷ [])
  -- the same with PRUNE v._key == "c": the path to c is given, and none after it
  pub pruned : AnswersInAnyOrder ring
      (returning (traversal vertex_alone 1 4 Outbound "n/a" (at_key "c") [] ∷ []) key)
      (str "b" ∷ str "c" ∷ [])
  -- FOR v IN 0..2 OUTBOUND "n/a" e PRUNE v._key == "a" RETURN v._key
  pub pruned_at_once : Answers ring
      (returning (traversal vertex_alone 0 2 Outbound "n/a" (at_key "a") [] ∷ []) key) (str "a" ∷ [])
  -- FOR v IN 1..4 OUTBOUND "n/a" e OPTIONS {uniqueVertices: "path"} RETURN v._key
  pub vertices_once : AnswersInAnyOrder ring
      (returning (traversal vertex_alone 1 4 Outbound "n/a" None each_vertex_once ∷ []) key)
      (str "b" ∷ str "c" ∷ [])
  -- FOR v IN 1..1 OUTBOUND {_id: "n/a"} e RETURN v._key
  pub from_an_object : Answers ring
      (returning (traversal_from vertex_alone 1 1 Outbound (with_id "n/a") None [] ∷ []) key) (str "b" ∷ [])
  -- FOR v, e, p IN 0..1 OUTBOUND "n/a" e RETURN [e == null, LENGTH(p.edges)]
  pub edges_counted : AnswersInAnyOrder ring
      (returning (traversal all_three 0 1 Outbound "n/a" None [] ∷ []) edges_of_path)
      (list (boolean true ∷ num 0 ∷ []) ∷ list (boolean false ∷ num 1 ∷ []) ∷ [])
  -- FOR v IN 1..1 INBOUND "n/d" e RETURN v._key
  pub against_edges : AnswersInAnyOrder diamond
      (returning (traversal vertex_alone 1 1 Inbound "n/d" None [] ∷ []) key) (str "b" ∷ str "c" ∷ [])
  -- FOR v IN 0..1 ANY "n/a" e RETURN v._key
  pub both_ways : AnswersInAnyOrder ring (returning (traversal vertex_alone 0 1 Any "n/a" None [] ∷ []) key)
      (str "a" ∷ str "b" ∷ str "c" ∷ [])
  -- FOR v IN 0..1 OUTBOUND "n/zz" e RETURN v
  pub no_document : Answers ring
      (returning (traversal vertex_alone 0 1 Outbound "n/zz" None [] ∷ []) (var "v"))
      (null ∷ [])
  -- FOR v IN 0..1 OUTBOUND "zz" e RETURN v
  pub no_id : Answers ring (returning (traversal vertex_alone 0 1 Outbound "zz" None [] ∷ []) (var "v")) []
  -- FOR v IN 1..2 ANY "n/a" e RETURN v._key
  pub self_loop : Answers loop (returning (traversal vertex_alone 1 2 Any "n/a" None [] ∷ []) key)
      (str "a" ∷ [])
  -- FOR v IN 1..3 OUTBOUND "n/a" e OPTIONS {uniqueEdges: "none"} RETURN v._key
  pub loop_again : Answers loop
      (returning (traversal vertex_alone 1 3 Outbound "n/a" None edges_again ∷ []) key)
      (str "a" ∷ str "a" ∷ str "a" ∷ [])
  -- FOR v IN 1..2 OUTBOUND "n/a" e RETURN v._key: where there is no document v is null, and the path goes on
  pub over_a_gap : AnswersInAnyOrder gap
      (returning (traversal vertex_alone 1 2 Outbound "n/a" None [] ∷ []) key)
      (null ∷ str "b" ∷ [])
  -- one path to each vertex, whichever it is
  pub d_by_b : AnswersInAnyOrder diamond (chosen_paths None) (path_ab ∷ path_ac ∷ path_abd ∷ [])
  pub d_by_c : AnswersInAnyOrder diamond (chosen_paths None) (path_ab ∷ path_ac ∷ path_acd ∷ [])
  pub not_by_b : AnswersInAnyOrder diamond (chosen_paths (at_key "b")) (path_ab ∷ path_ac ∷ path_acd ∷ [])
