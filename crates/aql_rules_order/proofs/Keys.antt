-- The keys of a Sort, one after another.
use Rattle.std.proofs.Common.{◌≡◌, ◌∙◌, ◌<◌, ◌+◌, ℕ, suc, List, ◌∷◌, length, drop, get_or, ap, ap₂, sym, subst, arith}
use Rattle.std.specs.Prelude.{◌↔◌, Bool}
use Rattle.std.proofs.Math.Seq.{drop-cons, drop-length}
use Rattle.aql_tree.specs.declared.syntax.Key.{Key}
use Rattle.aql_tree.specs.Tree.{ExprTree}
use Rattle.aql_tree.specs.View.{tree, key_part}
use Rattle.aql_plan.specs.View.{key_trees}
use Rattle.aql_rewrite.specs.Constant.{IsConstant, AreConstant, no_more, constant_then}
use Rattle.aql_rewrite.specs.Children.{list_children}
use Rattle.aql_tree.specs.laws.Parts.{key_is}

abbrev pub Constant : List Key → Type 0
Constant keys = AreConstant (list_children (key_trees keys))

first_of : {e : ExprTree} {es : List ExprTree} → AreConstant (e ∷ es) → IsConstant e
first_of (constant_then h k) = h

rest_of : {e : ExprTree} {es : List ExprTree} → AreConstant (e ∷ es) → AreConstant es
rest_of (constant_then h k) = k

same_expr : (k : Key) → (key_part k).0 ≡ tree k.expr
same_expr k = ap (λ (part : ExprTree × Bool). part.0) (key_is k)

next : (i : ℕ) → suc i ≡ i + 1
next i = omega arith

module _ (all : List Key) (i : ℕ) (k : Key) (within : i < length all) (here : k ≡ get_or all i k) where
  left : drop i all ≡ k ∷ drop (i + 1) all
  left = drop-cons all i k within ∙ ap₂ (λ x n. x ∷ drop n all) (sym here) (next i)

  pub constant_next : IsConstant (tree k.expr) → (Constant (drop i all) ↔ Constant all)
      → Constant (drop (i + 1) all) ↔ Constant all
  constant_next c h = (
    (λ m. h.0 (subst Constant (sym left) (constant_then (subst IsConstant (sym (same_expr k)) c) m))),
    (λ m. rest_of (subst Constant left (h.1 m))),
  )

  pub one_constant : (Constant (drop i all) ↔ Constant all) → Constant all → IsConstant (tree k.expr)
  one_constant h m = subst IsConstant (same_expr k) (first_of (subst Constant left (h.1 m)))

pub all_constant : (all : List Key) (i : ℕ) → i ≡ length all → (Constant (drop i all) ↔ Constant all)
    → Constant all
all_constant all i e h =
    h.0 (subst Constant (sym (ap (λ n. drop n all) e ∙ drop-length all)) no_more)
