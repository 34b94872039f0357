-- Operators, directions and options as a query writes them (AQL fundamentals, Operators; Graphs, Traversals).
use Rattle.std.specs.Prelude.{ℕ, List, ◌++◌, codes, Bool, cond}
use Rattle.aql_value.specs.declared.operators.BinOp.{BinOp}
use Rattle.aql_value.specs.declared.operators.BinOp.TheVariants as op
use Rattle.aql_value.specs.declared.operators.UnaryOp.{UnaryOp}
use Rattle.aql_value.specs.declared.operators.UnaryOp.TheVariants as unary
use Rattle.aql_tree.specs.declared.syntax.QuantKind.{QuantKind}
use Rattle.aql_tree.specs.declared.syntax.QuantKind.TheVariants as kind
use Rattle.aql_tree.specs.declared.syntax.Direction.{Direction}
use Rattle.aql_tree.specs.declared.syntax.Direction.TheVariants as direction
use Rattle.aql_tree.specs.declared.syntax.UniqueEdges.{UniqueEdges}
use Rattle.aql_tree.specs.declared.syntax.UniqueEdges.TheVariants as edges
use Rattle.aql_tree.specs.declared.syntax.UniqueVertices.{UniqueVertices}
use Rattle.aql_tree.specs.declared.syntax.UniqueVertices.TheVariants as vertices
use Rattle.aql_plan.specs.declared.facts.IndexKind.{IndexKind}
use Rattle.aql_plan.specs.declared.facts.IndexKind.TheVariants as index

abbrev pub operator_text : BinOp → List ℕ
operator_text op.And = codes "&&"
operator_text op.Or = codes "||"
operator_text op.Eq = codes "=="
operator_text op.Ne = codes "!="
operator_text op.Lt = codes "<"
operator_text op.Le = codes "<="
operator_text op.Gt = codes ">"
operator_text op.Ge = codes ">="
operator_text op.IsIn = codes "IN"
operator_text op.NotIn = codes "NOT IN"
operator_text op.Like = codes "LIKE"
operator_text op.NotLike = codes "NOT LIKE"
operator_text op.Add = codes "+"
operator_text op.Sub = codes "-"
operator_text op.Mul = codes "*"
operator_text op.Div = codes "/"
operator_text op.Rem = codes "%"

-- an operator before the text of its right side
abbrev pub right_text : BinOp → List ℕ → List ℕ
right_text o right = codes " " ++ operator_text o ++ codes " " ++ right

abbrev pub sign_text : UnaryOp → List ℕ
sign_text unary.Plus = codes "+"
sign_text unary.Minus = codes "-"
sign_text unary.Not = codes "!"

abbrev pub quantifier_text : QuantKind → List ℕ
quantifier_text kind.All = codes "ALL"
quantifier_text kind.Any = codes "ANY"
quantifier_text kind.None = codes "NONE"

abbrev pub direction_text : Direction → List ℕ
direction_text direction.Outbound = codes "OUTBOUND"
direction_text direction.Inbound = codes "INBOUND"
direction_text direction.Any = codes "ANY"

abbrev pub edges_text : UniqueEdges → List ℕ
edges_text edges.Path = codes "path"
edges_text edges.None = codes "none"

abbrev pub vertices_text : UniqueVertices → List ℕ
vertices_text vertices.None = codes "none"
vertices_text vertices.Path = codes "path"
vertices_text vertices.Global = codes "global"

-- breadth first or depth first
abbrev pub order_text : Bool → List ℕ
order_text bfs = cond bfs (codes "bfs") (codes "dfs")

abbrev pub kind_text : IndexKind → List ℕ
kind_text index.Primary = codes "primary"
kind_text index.Edge = codes "edge"
kind_text index.Sorted = codes "sorted"

-- ascending or descending
abbrev pub sorting_text : Bool → List ℕ
sorting_text descending = cond descending (codes " DESC") (codes " ASC")
