-- What the bounds of an index and the options of a traversal stand for, as the program holds them.
use Rattle.std.specs.Prelude.{Option, option_map}
use Rattle.aql_tree.specs.Tree as tree
use Rattle.aql_tree.specs.Tree.{ExprTree}
use Rattle.aql_tree.specs.View as view
use Rattle.aql_meaning.specs.declared.nodes.Edge.{Edge}
use Rattle.aql_meaning.specs.declared.nodes.Last.{Last}
use Rattle.aql_meaning.specs.declared.nodes.Last.TheVariants as code
use Rattle.aql_meaning.specs.declared.nodes.TraversalOptions.{TraversalOptions}
use Rattle.aql_meaning.specs.Documents as bounds

abbrev pub end_tree : Edge → bounds.End ExprTree
end_tree e = record { limit = view.tree e.expr; inclusive = e.inclusive }

abbrev pub last_tree : Last → bounds.Last ExprTree
last_tree code.None = bounds.no_last
last_tree (code.OneOf e) = bounds.one_of (view.tree e)
last_tree (code.Range low high) = bounds.between (option_map end_tree low) (option_map end_tree high)

abbrev pub options_tree : TraversalOptions → tree.TraversalOptions
options_tree o = record { edges = o.edges; vertices = o.vertices; bfs = o.bfs }
