-- What a FOR and a traversal say beside their expressions, as the grammar says it.
use Rattle.std.specs.Prelude.{ℕ, List, Option, Some, None}
use Rattle.aql_tree.specs.Tree.{TraversalShape, TraversalOptions}
use Rattle.aql_tree.specs.Build.{default_options}
use Rattle.aql_parse.specs.declared.traversals.Shape.{Shape}

abbrev pub shape_with : Shape → TraversalOptions → TraversalShape
shape_with s options = record {
  vertex = s.vertex;
  edge = s.edge;
  path = s.path;
  min = s.depth.least;
  max = s.depth.greatest;
  direction = s.direction;
  options = options;
}

abbrev pub shape_of : Shape → TraversalShape
shape_of s = shape_with s default_options

-- the variable of a FOR, where no edge is named beside it
abbrev pub lone_vertex : List ℕ → Option (List ℕ) → Option (List ℕ)
lone_vertex vertex None = Some vertex
lone_vertex vertex (Some edge) = None
