-- Expressions without a place of a rule have no first one, so the rule does not apply at their node.
use Rattle.std.proofs.Common.{◌≡◌, List, subst}
use Rattle.std.specs.Prelude.{Option, Some, None}
use Rattle.aql_tree.specs.Tree.{ExprTree}
use Rattle.aql_plan.specs.Plan.{Plan, Singleton, Over, top}
use Rattle.aql_rewrite.specs.FirstInExpr.{NoneIn, none_in, NoneInAll, none_then}
use Rattle.aql_rewrite.specs.FirstInExpr.{FirstIn, in_child, at_whole, FirstOf, first, later}
use Rattle.aql_rewrite.specs.declared.swap.Rename.{Rename}
use Rattle.aql_rewrite.specs.NodeExprs.{node_exprs}
use Rattle.aql_passes.specs.AtExprs.{RewritesAtTop}

module _ (R : ExprTree → ExprTree → Type 0) where
  mutual
    none_in_it : {e q : ExprTree} → FirstIn R e q → NoneIn R e → ⊥
    none_in_it (in_child h) (none_in k s) = none_of_them h k
    none_in_it (at_whole {q = q} m h) (none_in k s) = s q h

    none_of_them : {es ds : List ExprTree} → FirstOf R es ds → NoneInAll R es → ⊥
    none_of_them (first h) (none_then n m) = none_in_it h n
    none_of_them (later k h) (none_then n m) = none_of_them h m

  pub stays_at_node : (p : Plan) (es : List ExprTree) → es ≡ node_exprs (top p) → NoneInAll R es
      → (q : Plan) (r : Option Rename) → RewritesAtTop R p q r → ⊥
  stays_at_node Singleton es e h q None k = k
  stays_at_node Singleton es e h q (Some r) k = k
  stays_at_node (Over b n) es e h q None k =
      none_of_them k.1 (subst (λ (ds : List ExprTree). NoneInAll R ds) e h)
  stays_at_node (Over b n) es e h q (Some r) k = k
