-- A rule on expressions applied again and again at its first place, until there is none: for the contracts of
-- private functions alone. Two flags tell whether there was an application before, and whether there is one
-- by then.
use Rattle.std.specs.Prelude.{◌≡◌, Bool, false, List}
use Rattle.aql_tree.specs.Tree.{ExprTree}
use Rattle.aql_meaning.specs.Uses.{Uses}
use Rattle.aql_plan.specs.Plan.{Plan, Node}
use Rattle.aql_rewrite.specs.FirstInExpr.{NoneIn, NoneInAll, FirstIn, FirstOf}
use Rattle.aql_rewrite.specs.NodeExprs.{node_exprs, over_exprs}
use Rattle.aql_rewrite.specs.Places.{NoPlace}
use Rattle.aql_rewrite.specs.inner.Applications.{Applications, Application}
use Rattle.aql_passes.specs.AtExprs.{AtExprs}

module _ (R : ExprTree → ExprTree → Type 0) where
  pub record Ends (e d : ExprTree) (x y : Bool) : Type 0 where
    pub reached : Applications ExprTree (FirstIn R) e d x y
    pub ended : NoneIn R d

  -- the same of expressions one after another
  pub record AllEnd (es ds : List ExprTree) (x y : Bool) : Type 0 where
    pub reached : Applications (List ExprTree) (FirstOf R) es ds x y
    pub ended : NoneInAll R ds

  -- the same of the expressions of a node; m is the node over what they come to
  abbrev pub ExprsEnd : Node → Node → Bool → Bool → Type 0
  ExprsEnd n m x y = (ds : List ExprTree) × AllEnd (node_exprs n) ds x y × (m ≡ over_exprs n ds)

  -- the same of a plan, whatever is used above it
  pub record PlanEnds (p q : Plan) (x y : Bool) : Type 0 where
    pub reached : (us : Uses) → Applications Plan (Application (AtExprs R) us) p q x y
    pub ended : (us : Uses) → NoPlace (AtExprs R) false us q
