-- A list of expressions has as many as their trees.
use Rattle.std.proofs.Common.{◌≡◌, List, [], ◌∷◌, length, refl, arith}
use Rattle.aql_tree.specs.declared.syntax.Expr.{Expr}
use Rattle.aql_plan.specs.Fits.{exprs_in}
use Rattle.aql_plan.specs.View.{expr_trees}

pub counted : (es : List Expr) → length es ≡ exprs_in (expr_trees es)
counted [] = refl
counted (e ∷ es) = let rest = counted es in omega (arith, rest)
