-- What a rule on expressions makes of a part of a plan, by the relation R of what may stand in place of an
-- expression: its first place among the expressions of the top node, in the order of the plan's text, is
-- rewritten.
use Rattle.std.specs.Prelude.{◌≡◌, List, Option, Some, None}
use Rattle.aql_tree.specs.Tree.{ExprTree}
use Rattle.aql_plan.specs.Plan.{Plan, Singleton, Over}
use Rattle.aql_rewrite.specs.FirstInExpr.{FirstOf}
use Rattle.aql_rewrite.specs.declared.swap.Rename.{Rename}
use Rattle.aql_rewrite.specs.NodeExprs.{node_exprs, over_exprs}
use Rattle.aql_rewrite.specs.Places.{Rewriting}

module _ (R : ExprTree → ExprTree → Type 0) where
  abbrev pub AtTop : Plan → Plan → Type 0
  AtTop Singleton q = ⊥
  AtTop (Over b n) q = (es : List ExprTree) × FirstOf R (node_exprs n) es × (q ≡ Over b (over_exprs n es))

  -- nothing is renamed
  abbrev pub RewritesAtTop : Plan → Plan → Option Rename → Type 0
  RewritesAtTop p q None = AtTop p q
  RewritesAtTop p q (Some r) = ⊥

  -- the rule as one on plans; what is used above a part does not count
  abbrev pub AtExprs : Rewriting
  AtExprs us p q renaming = RewritesAtTop p q renaming
