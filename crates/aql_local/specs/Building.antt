-- The operator of a node that has an executor, and those of its body; and what is asked of the variables of a
-- COLLECT.
use Rattle.std.specs.Prelude.{◌≡◌, Bool, true, false}
use Rattle.std.specs.List.{AllByRecursion}
use Rattle.aql_meaning.specs.Numbered.{IsNumber}
use Rattle.aql_plan.specs.declared.facts.Facts.{Facts}
use Rattle.aql_plan.specs.Plan.{Plan, Singleton, Over, Node, EnumerateCollection, EnumerateList, Index, Traversal}
use Rattle.aql_plan.specs.Plan.{Filter, Sort, Return, Subquery, Collect, NoResults}
use Rattle.aql_plan.specs.Needs.{sets}
use Rattle.aql_exec.specs.Operators.{Operator, NoRows, OnRows, WithBody, OperatorTree, leaf}
use Rattle.aql_engine.specs.OperatorsOf.{operators_of}

abbrev pub operator_of : Node → Operator
operator_of NoResults = NoRows
operator_of (Subquery x body) = WithBody x
operator_of n = OnRows n

-- a node without a body has one that never begins
abbrev pub body_operators : Facts → Node → OperatorTree
body_operators facts (Subquery x body) = operators_of facts body
body_operators facts n = leaf NoRows

-- a node gives no row, whatever its input gives
abbrev pub node_gives_none : Node → Bool
node_gives_none NoResults = true
node_gives_none n = false

-- so does the node at the top of a plan
abbrev pub gives_none : Plan → Bool
gives_none Singleton = false
gives_none (Over b n) = node_gives_none n

-- the executor of a node works by a transform
abbrev pub HasTransform : Node → Type 0
HasTransform (EnumerateCollection x) = Unit {0}
HasTransform (EnumerateList x e) = Unit {0}
HasTransform (Index x index equal last ordered) = Unit {0}
HasTransform (Traversal shape e colls prune keep) = Unit {0}
HasTransform (Filter e) = Unit {0}
HasTransform (Sort directions es limit) = Unit {0}
HasTransform (Collect xs es gs i stage) = Unit {0}
HasTransform (Return distinct e) = distinct ≡ true
HasTransform n = ⊥

abbrev pub IsIndexNode : Node → Type 0
IsIndexNode (Index x index equal last ordered) = Unit {0}
IsIndexNode n = ⊥

abbrev pub IsTraversal : Node → Type 0
IsTraversal (Traversal shape e colls prune keep) = Unit {0}
IsTraversal n = ⊥

abbrev pub IsCollect : Node → Type 0
IsCollect (Collect xs es gs i stage) = Unit {0}
IsCollect n = ⊥

abbrev mutual
  -- what each COLLECT of a plan sets are numbers, also in bodies
  pub SetsNumbers : Plan → Type 0
  SetsNumbers Singleton = Unit {0}
  SetsNumbers (Over b n) = SetsNumbers b × NodeSetsNumbers n

  pub NodeSetsNumbers : Node → Type 0
  NodeSetsNumbers (Subquery x body) = SetsNumbers body
  NodeSetsNumbers (Collect xs es gs i s) = AllByRecursion IsNumber (sets (Collect xs es gs i s))
  NodeSetsNumbers n = Unit {0}
