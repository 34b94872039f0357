-- One more expression after those without a place of a rule.
use Rattle.std.proofs.Common.{List, [], ◌∷◌, ◌++◌}
use Rattle.aql_tree.specs.Tree.{ExprTree}
use Rattle.aql_rewrite.specs.FirstInExpr.{NoneIn, NoneInAll, none_left, none_then, FirstIn, FirstOf, first, later}

module _ (R : ExprTree → ExprTree → Type 0) where
  pub none_more : {es : List ExprTree} {e : ExprTree} → NoneInAll R es → NoneIn R e → NoneInAll R (es ++ e ∷ [])
  none_more none_left n = none_then n none_left
  none_more (none_then m h) n = none_then m (none_more h n)

  pub first_after : {before : List ExprTree} {e d : ExprTree} (es : List ExprTree) → NoneInAll R before
      → FirstIn R e d → FirstOf R (before ++ e ∷ es) (before ++ d ∷ es)
  first_after es none_left f = first f
  first_after es (none_then n h) f = later n (first_after es h f)
