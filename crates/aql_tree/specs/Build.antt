-- The words in which a grammar or a rule names trees, where the parts that repeat are plain lists:
-- the trees themselves are those of Tree, in the order of the AQL manual's grammar.
use Rattle.std.specs.Prelude.{ℕ, ℤ, Bool, false, List, ◌∷◌, Option, Some, None}
use Rattle.aql_value.specs.Datum as value
use Rattle.aql_value.specs.declared.operators.BinOp.{BinOp}
use Rattle.aql_tree.specs.declared.syntax.Ident.{Ident}
use Rattle.aql_tree.specs.declared.syntax.Ident.TheVariants.{Name}
use Rattle.aql_tree.specs.declared.syntax.Direction.{Direction}
use Rattle.aql_tree.specs.declared.syntax.UniqueEdges.TheVariants as edges
use Rattle.aql_tree.specs.declared.syntax.UniqueVertices.TheVariants as vertices
use Rattle.aql_tree.specs.Tree.{TraversalOptions, TraversalShape, ExprTree, literal, variable, array_literal, object_literal, access}
use Rattle.aql_tree.specs.Tree.{function_call, chain, ternary, ClauseTree, for_each, let_be, QueryTree}
use Rattle.aql_tree.specs.Tree as tree
use Rattle.aql_tree.specs.View.{trees, maybe, MemberPart, members, StepPart, steps, LinkPart, links}
use Rattle.aql_tree.specs.View.{LetPart, AggregatePart, IntoPart, clauses}
use Rattle.aql_tree.specs.View.{TraversalPart}

-- ---- expressions

abbrev pub number : ℤ → ExprTree
number n = literal (value.number n)

abbrev pub text : List ℕ → ExprTree
text s = literal (value.text s)

abbrev pub null : ExprTree
null = literal value.null

abbrev pub boolean : Bool → ExprTree
boolean b = literal (value.boolean b)

-- a variable by its name
abbrev pub name : List ℕ → ExprTree
name x = variable (Name x)

abbrev pub list : List ExprTree → ExprTree
list es = array_literal (trees es)

abbrev pub object : List MemberPart → ExprTree
object ms = object_literal (members ms)

abbrev pub call : List ℕ → List ExprTree → ExprTree
call f es = function_call f (trees es)

-- an expression with at least one step after it
abbrev pub with_steps : ExprTree → StepPart → List StepPart → ExprTree
with_steps e s ss = access e (steps (s ∷ ss))

abbrev pub link : BinOp → ExprTree → LinkPart
link op e = (op, e)

-- an expression with at least one link after it
abbrev pub with_links : ExprTree → LinkPart → List LinkPart → ExprTree
with_links e l ls = chain e (links (l ∷ ls))

-- `test ? first : other`
abbrev pub conditional : ExprTree → Option ExprTree → ExprTree → ExprTree
conditional test first other = ternary test (maybe first) other

-- ---- clauses

abbrev pub for_in : List ℕ → ExprTree → ClauseTree
for_in x e = for_each (Name x) e

abbrev pub let_in : List ℕ → ExprTree → ClauseTree
let_in x e = let_be (Name x) e

-- a variable that takes a value, as a criterion of COLLECT does
abbrev pub assignment : List ℕ → ExprTree → LetPart
assignment x e = (Name x, e)

-- `x = NAME(argument)`
abbrev pub aggregate_as : List ℕ → List ℕ → Option ExprTree → AggregatePart
aggregate_as x f argument = (Name x, f, argument)

abbrev pub collect_into : List ℕ → Option ExprTree → List (List ℕ) → IntoPart
collect_into x what keep = (Name x, what, keep)

-- the variables of a traversal: its vertex, its edge and its path
pub record TraversalNames : Type 0 where
  pub vertex : List ℕ
  pub edge : Option (List ℕ)
  pub path : Option (List ℕ)

abbrev pub maybe_name : Option (List ℕ) → Option Ident
maybe_name None = None
maybe_name (Some x) = Some (Name x)

-- the options of a traversal where nothing is written
abbrev pub default_options : TraversalOptions
default_options = record { edges = edges.Path; vertices = vertices.None; bfs = false }

-- what a traversal says beside its expressions, as it is written: its options are still settings
abbrev pub shape_by_names : TraversalNames → ℕ → ℕ → Direction → TraversalShape
shape_by_names names min max direction = record {
  vertex = Name names.vertex;
  edge = maybe_name names.edge;
  path = maybe_name names.path;
  min = min;
  max = max;
  direction = direction;
  options = default_options;
}

abbrev pub traversal : TraversalNames → ℕ → ℕ → Direction → ExprTree → List (List ℕ) → Option ExprTree
    → List MemberPart → TraversalPart
traversal names min max direction start collections prune settings =
    (shape_by_names names min max direction, start, collections, prune, settings)

-- ---- queries

abbrev pub query : List (List ℕ) → List ClauseTree → Bool → ExprTree → QueryTree
query with_list cs distinct e = tree.query with_list (clauses cs) distinct e
