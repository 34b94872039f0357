-- One more expression that comes to its end, in a walk over expressions that are lent.
use Rattle.std.proofs.Common.{◌≡◌, ◌<◌, ◌+◌, ℕ, Bool, List, [], ◌∷◌, ◌++◌, length, map, take, get_or, sym, subst}
use Rattle.std.specs.Borrow.{Bor}
use Rattle.aql_tree.specs.declared.syntax.Expr.{Expr}
use Rattle.aql_tree.specs.Tree.{ExprTree}
use Rattle.aql_rewrite.specs.ExprView.{lent}
use Rattle.aql_rewrite.specs.laws.LentExprs.{trees_next}
use Rattle.aql_passes.specs.inner.Ends.{Ends, AllEnd}
use Rattle.aql_passes.specs.laws.Ended.{one_more}

-- what those before come to may depend on what they are
pub one_ended : (R : ExprTree → ExprTree → Type 0) (all : List (Bor Expr)) (i : ℕ) (e : Bor Expr)
    → i < length all → e ≡ get_or all i e
    → (new : List ExprTree → List ExprTree) (old : List ExprTree) (d : ExprTree) (x y z : Bool)
    → AllEnd R (map lent (take i all)) old x y → Ends R (lent e) d y z
    → new (map lent (take i all) ++ lent e ∷ []) ≡ old ++ d ∷ []
    → AllEnd R (map lent (take (i + 1) all)) (new (map lent (take (i + 1) all))) x z
one_ended R all i e within here new old d x y z h k added =
    subst (λ (es : List ExprTree). AllEnd R es (new es) x z) (sym (trees_next all i e within here))
    (subst (λ (ds : List ExprTree). AllEnd R (map lent (take i all) ++ lent e ∷ []) ds x z) (sym added)
    (one_more R (map lent (take i all)) old (lent e) d x y z h k))
