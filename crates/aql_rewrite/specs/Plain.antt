-- Plans whose expressions hold no subquery, in bodies too.
use Rattle.std.specs.Prelude.{Option, Some, None}
use Rattle.std.specs.List.{AllByRecursion}
use Rattle.aql_tree.specs.declared.syntax.Ident.{Ident}
use Rattle.aql_tree.specs.Tree.{ExprTree, variable}
use Rattle.aql_meaning.specs.Plain.{IsPlain}
use Rattle.aql_plan.specs.Plan.{Plan, Singleton, Over, Node, Subquery}
use Rattle.aql_rewrite.specs.NodeExprs.{node_exprs}

abbrev mutual
  pub PlanPlain : Plan → Type 0
  PlanPlain Singleton = Unit {0}
  PlanPlain (Over b n) = PlanPlain b × NodePlain n

  pub NodePlain : Node → Type 0
  NodePlain (Subquery x s) = PlanPlain s
  NodePlain n = AllByRecursion IsPlain (node_exprs n)

-- the variable that an expression is, if it is one
abbrev pub variable_in : ExprTree → Option Ident
variable_in (variable x) = Some x
variable_in e = None
