-- The OPTIONS of a traversal as they are judged (Graphs, Traversals: working with OPTIONS): a setting has a
-- literal that it knows, stands there once, and agrees with the settings before it.
use Rattle.std.specs.Prelude.{ℕ, List, Bool, true, false, cond, not, bytes_eq, codes, Option, Some, None}
use Rattle.aql_value.specs.Datum.{Datum, text, boolean}
use Rattle.aql_tree.specs.declared.syntax.UniqueEdges.{UniqueEdges}
use Rattle.aql_tree.specs.declared.syntax.UniqueEdges.TheVariants as edges
use Rattle.aql_tree.specs.declared.syntax.UniqueVertices.{UniqueVertices}
use Rattle.aql_tree.specs.declared.syntax.UniqueVertices.TheVariants as vertices
use Rattle.aql_scope.specs.declared.options.Written.{Written}

-- nothing is written
abbrev pub no_settings : Written
no_settings = record { edges = None; vertices = None; order = None; bfs = None }

-- what a setting takes over, where it is given for the first time and has a value that it knows
abbrev pub once : {V : Type 0} → Option V → Option V → (V → Written) → Option Written
once None (Some v) f = Some (f v)
once None None f = None
once (Some u) v f = None

-- `uniqueEdges`: "path" or "none"
abbrev pub edges_in : Datum → Option UniqueEdges
edges_in (text t) = cond (bytes_eq t (codes "path")) (Some edges.Path)
    (cond (bytes_eq t (codes "none")) (Some edges.None) None)
edges_in v = None

-- `uniqueVertices`: "none", "path" or "global"
abbrev pub vertices_in : Datum → Option UniqueVertices
vertices_in (text t) = cond (bytes_eq t (codes "none")) (Some vertices.None)
    (cond (bytes_eq t (codes "path")) (Some vertices.Path)
    (cond (bytes_eq t (codes "global")) (Some vertices.Global) None))
vertices_in v = None

-- `order`: "dfs" or "bfs"
abbrev pub order_in : Datum → Option Bool
order_in (text t) =
    cond (bytes_eq t (codes "bfs")) (Some true) (cond (bytes_eq t (codes "dfs")) (Some false) None)
order_in v = None

-- `bfs`: true or false
abbrev pub bfs_in : Datum → Option Bool
bfs_in (boolean b) = Some b
bfs_in v = None

-- the settings with one more; nothing where its name or its value is none, or where it is there already
abbrev pub with_setting : List ℕ → Datum → Written → Option Written
with_setting name v w =
    cond (bytes_eq name (codes "uniqueEdges")) (once w.edges (edges_in v) (λ u. record w { edges = Some u }))
    (cond (bytes_eq name (codes "uniqueVertices"))
    (once w.vertices (vertices_in v) (λ u. record w { vertices = Some u }))
    (cond (bytes_eq name (codes "order")) (once w.order (order_in v) (λ u. record w { order = Some u }))
    (cond (bytes_eq name (codes "bfs")) (once w.bfs (bfs_in v) (λ u. record w { bfs = Some u })) None)))

-- whether `order` and `bfs` say the same, where both are there
abbrev pub agree : Option Bool → Option Bool → Bool
agree (Some a) (Some b) = cond a b (not b)
agree a b = true

-- whether the traversal goes breadth first
abbrev pub is_breadth_first : Option Bool → Option Bool → Bool
is_breadth_first (Some a) b = a
is_breadth_first None (Some b) = b
is_breadth_first None None = false

-- "global" goes with breadth first alone
abbrev pub global_fits : Option UniqueVertices → Bool → Bool
global_fits (Some vertices.Global) breadth = breadth
global_fits v breadth = true
