-- What simplify-conditions gives at an expression.
use Rattle.std.proofs.Common.{◌≡◌, ◌∙◌, ◌<◌, List, [], ◌∷◌, length, Bool, true, false, cond, refl, ap, sym}
use Rattle.std.proofs.Common.{subst, arith}
use Rattle.std.specs.Prelude.{Option, Some, None, Result, Ok, Err, IfOk, MatchOption, option_map}
use Rattle.aql_value.specs.Datum.{null}
use Rattle.aql_tree.specs.declared.syntax.Expr.{Expr}
use Rattle.aql_tree.specs.Tree.{ExprTree, literal, object_literal, access, name_then}
use Rattle.aql_tree.specs.View.{tree, steps, StepPart, name, at, inline}
use Rattle.aql_rewrite.specs.FirstInExpr.{Stays}
use Rattle.aql_rules_calc.specs.inner.Members.{member_taken}
use Rattle.aql_rules_calc.specs.SimplifyConditions.{IsComputed, constant_value, all_named, last_of}
use Rattle.aql_rules_calc.specs.SimplifyConditions.{with_steps, Simplifies, to_literal, to_member}

none_taken : (t q : ExprTree) → (IsComputed t → ⊥) → member_taken t ≡ None → Simplifies t q → ⊥
none_taken _ _ n m (to_literal h) = n h
none_taken _ _ n m (to_member {ms = ms} {name = key} {ss = ss} o c) =
    let new = with_steps (last_of key ms (literal null)) ss in
    let e : Some new ≡ None = sym (ap (λ (b : Bool). cond b (Some new) None) o) ∙ m in cc

one_taken : (t q : ExprTree) → (IsComputed t → ⊥) → member_taken t ≡ Some q → Simplifies t q
one_taken (access (object_literal ms) (name_then key ss)) q n m = by (all_named ms) refl m
  where
    old : ExprTree
    old = access (object_literal ms) (name_then key ss)

    new : ExprTree
    new = with_steps (last_of key ms (literal null)) ss

    by : (b : Bool) → all_named ms ≡ b → cond b (Some new) None ≡ Some q → Simplifies old q
    by true o k =
        let e : new ≡ q = cc in subst (λ (x : ExprTree). Simplifies old x) e (to_member o n)
    by false o k = cc
one_taken t q n m = cc

pub taken_given : {E : Type 0} (t : ExprTree) → (IsComputed t → ⊥) → (r : Result (Option Expr) E)
    → IfOk r (λ o. option_map tree o ≡ member_taken t)
    → IfOk r (λ o. MatchOption o (Stays Simplifies t) (λ e. Simplifies t (tree e)))
taken_given t n (Err f) h = h
taken_given t n (Ok None) h = λ q. none_taken t q n (sym h)
taken_given t n (Ok (Some e)) h = one_taken t (tree e) n (sym h)

pub computed_given : (t q : ExprTree) → IsComputed t × (q ≡ literal (constant_value t)) → Simplifies t q
computed_given t q h = subst (λ (x : ExprTree). Simplifies t x) (sym h.1) (to_literal h.0)

pub some_steps : (e : ExprTree) (ss : List StepPart) → 0 < length ss
    → access e (steps ss) ≡ with_steps e (steps ss)
some_steps e [] h = let none : ⊥ = omega (arith, h) in absurd none
some_steps e (name n ∷ ss) h = refl
some_steps e (at i ∷ ss) h = refl
some_steps e (inline f g ∷ ss) h = refl
