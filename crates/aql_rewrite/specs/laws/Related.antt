-- New parts that are related to the old ones place by place, taken in order.
use Rattle.std.proofs.Common.{List, [], ◌∷◌, ◌++◌}
use Rattle.std.specs.List.{AllZip}
use Rattle.aql_tree.specs.Tree.{ExprTree, MaybeExpr, no_expr, one_expr}
use Rattle.aql_rewrite.specs.Children.{maybe_children}
use Rattle.aql_rewrite.specs.OverChildren.{first_or, after_first, after_maybe}

module _ (P : ExprTree → ExprTree → Type 0) where
  pub first_related : (e : ExprTree) (es ps : List ExprTree) → AllZip P (e ∷ es) ps → P e (first_or e ps)
  first_related e es [] h = absurd h
  first_related e es (p ∷ ps) h = h.0

  pub rest_related : (e : ExprTree) (es ps : List ExprTree) → AllZip P (e ∷ es) ps
      → AllZip P es (after_first ps)
  rest_related e es [] h = absurd h
  rest_related e es (p ∷ ps) h = h.1

  pub after_maybe_related : (e : MaybeExpr) (es ps : List ExprTree) → AllZip P (maybe_children e ++ es) ps
      → AllZip P es (after_maybe e ps)
  after_maybe_related no_expr es ps h = h
  after_maybe_related (one_expr e) es ps h = rest_related e es ps h

  pub each_related : ((e : ExprTree) → P e e) → (es : List ExprTree) → AllZip P es es
  each_related f [] = tt
  each_related f (e ∷ es) = (f e, each_related f es)
