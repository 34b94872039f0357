-- The query of the script that is made, as a tree.
use Rattle.std.specs.Prelude.{List, [], ◌∷◌, Some, None, codes}
use Rattle.aql_value.specs.declared.operators.BinOp.TheVariants.{Lt}
use Rattle.aql_tree.specs.declared.syntax.Direction.TheVariants.{Outbound}
use Rattle.aql_tree.specs.Tree.{ClauseTree, filter_by, QueryTree}
use Rattle.aql_tree.specs.Build as build
use Rattle.aql_tree.specs.View.{collect_clause, traversal_clause}
use Rattle.aql_meaning.specs.worked.Words.{int, var, dot, op, for, agg, returning}
use Rattle.aql_meaning.specs.worked.Expressions.{items}

-- FOR v IN 1..2 OUTBOUND u knows
abbrev pub each_path : ClauseTree
each_path =
    traversal_clause
    (build.traversal (record { vertex = codes "v"; edge = None; path = None }) 1 2 Outbound (var "u")
    (codes "knows" ∷ []) None [])

-- COLLECT g = u.g AGGREGATE c = COUNT(v), s = SUM(v.n)
abbrev pub groups : ClauseTree
groups = collect_clause (
  build.assignment (codes "g") (dot (var "u") "g") ∷ [],
  agg "c" "COUNT" (Some (var "v")) ∷ agg "s" "SUM" (Some (dot (var "v") "n")) ∷ [],
  None,
)

abbrev pub made_clauses : List ClauseTree
made_clauses = for "u" (var "users") ∷ filter_by (op (dot (var "u") "g") Lt (int 3)) ∷ each_path ∷ groups ∷ []

abbrev pub made_query : QueryTree
made_query = returning made_clauses (items (var "g" ∷ var "c" ∷ var "s" ∷ []))
