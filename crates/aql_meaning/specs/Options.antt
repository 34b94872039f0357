-- The OPTIONS of a traversal as they are written (Graphs, Traversals: working with OPTIONS). What is not
-- written has its default, and so has a setting of a value that it does not know; a setting written twice
-- counts the second time. `order` says nothing of the answers, since the rows of a traversal come in any
-- order.
use Rattle.std.specs.Prelude.{ℕ, List, Bool, true, cond, bytes_eq, codes}
use Rattle.aql_value.specs.Datum.{Datum, text, boolean}
use Rattle.aql_value.specs.Contents.{same}
use Rattle.aql_tree.specs.declared.syntax.UniqueEdges.{UniqueEdges}
use Rattle.aql_tree.specs.declared.syntax.UniqueEdges.TheVariants as edges
use Rattle.aql_tree.specs.declared.syntax.UniqueVertices.{UniqueVertices}
use Rattle.aql_tree.specs.declared.syntax.UniqueVertices.TheVariants as vertices
use Rattle.aql_tree.specs.Tree.{TraversalShape, TraversalOptions, literal, MemberTrees, no_members, named_then, computed_then}
use Rattle.aql_tree.specs.Build.{default_options}

-- `uniqueEdges`: "path" or "none"
abbrev pub edges_setting : Datum → UniqueEdges
edges_setting v = cond (same v (text (codes "none"))) edges.None edges.Path

-- `uniqueVertices`: "none", "path" or "global"
abbrev pub vertices_setting : Datum → UniqueVertices
vertices_setting v = cond (same v (text (codes "global"))) vertices.Global
    (cond (same v (text (codes "path"))) vertices.Path vertices.None)

-- `order`: "dfs" or "bfs"; `bfs: true` says the latter
abbrev pub order_setting : Datum → Bool
order_setting v = same v (text (codes "bfs"))

-- the options with one more setting
abbrev pub set_by : List ℕ → Datum → TraversalOptions → TraversalOptions
set_by name v o =
    cond (bytes_eq name (codes "uniqueEdges")) (record o { edges = edges_setting v })
    (cond (bytes_eq name (codes "uniqueVertices")) (record o { vertices = vertices_setting v })
    (cond (bytes_eq name (codes "order")) (record o { bfs = order_setting v })
    (cond (bytes_eq name (codes "bfs")) (record o { bfs = same v (boolean true) }) o)))

-- the options with all settings; what is no name with a literal says nothing
abbrev pub set_all : TraversalOptions → MemberTrees → TraversalOptions
set_all o no_members = o
set_all o (named_then name (literal v) ms) = set_all (set_by name v o) ms
set_all o (named_then name e ms) = set_all o ms
set_all o (computed_then n e ms) = set_all o ms

-- the options of a traversal: what its settings write, and its own where none is written
abbrev pub options_of : MemberTrees → TraversalOptions → TraversalOptions
options_of no_members o = o
options_of (named_then name e ms) o = set_all default_options (named_then name e ms)
options_of (computed_then n e ms) o = set_all default_options (computed_then n e ms)

abbrev pub with_settings : MemberTrees → TraversalShape → TraversalShape
with_settings settings w = record w { options = options_of settings w.options }
