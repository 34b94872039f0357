-- The names of a traversal as the grammar says them.
use Rattle.std.specs.Prelude.{ℕ}
use Rattle.aql_tree.specs.Build.{TraversalNames}
use Rattle.aql_grammar.specs.declared.traversals.TraversalNames as code
use Rattle.aql_grammar.specs.declared.traversals.Depth.{Depth}

abbrev pub traversal_names : code.TraversalNames → TraversalNames
traversal_names names = record { vertex = names.vertex; edge = names.edge; path = names.path }

abbrev pub depth_pair : Depth → ℕ × ℕ
depth_pair d = (d.least, d.greatest)
