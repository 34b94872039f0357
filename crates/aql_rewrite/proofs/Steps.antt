-- The steps of a walk over expressions that are lent: what stands at a place of a list, and what was passed.
use Rattle.std.proofs.Common.{◌≡◌, ◌∙◌, ◌<◌, ◌+◌, ℕ, List, [], ◌∷◌, ◌++◌, length, map, take, drop}
use Rattle.std.proofs.Common.{get_or, append_assoc, false, ap, sym, subst, subst₂}
use Rattle.std.specs.Prelude.{Bool, Option, Some, None, Result, Ok, Err, MatchOption, IfOk, IfSome, IsTrue}
use Rattle.std.specs.Prelude.{◌↔◌}
use Rattle.std.specs.Borrow.{Bor}
use Rattle.std.proofs.lemmas.List.{map-append}
use Rattle.aql_tree.specs.declared.syntax.Expr.{Expr}
use Rattle.aql_tree.specs.Tree.{ExprTree}
use Rattle.aql_tree.specs.View.{tree}
use Rattle.aql_rewrite.specs.Children.{children}
use Rattle.aql_rewrite.specs.OverChildren.{over_children}
use Rattle.aql_rewrite.specs.FirstInExpr.{Stays, NoneIn, none_in, NoneInAll}
use Rattle.aql_rewrite.specs.FirstInExpr.{FirstIn, in_child, at_whole, FirstOf}
use Rattle.aql_rewrite.specs.Constant.{is_open, IsConstant, constant, AreConstant, no_more}
use Rattle.aql_rewrite.specs.Constant.{constant_then}
use Rattle.aql_rewrite.specs.ExprView.{lent}
use Rattle.aql_rewrite.specs.laws.LentExprs.{trees_next, trees_split}
use Rattle.aql_rewrite.specs.laws.OneAfter.{none_more, first_after}

-- ---- rules

module _ (R : ExprTree → ExprTree → Type 0) where
  -- one more without a place
  pub none_next : (all : List (Bor Expr)) (i : ℕ) (e : Bor Expr) → i < length all → e ≡ get_or all i e
      → NoneInAll R (map lent (take i all)) → NoneIn R (lent e) → NoneInAll R (map lent (take (i + 1) all))
  none_next all i e within here h n =
      subst (λ (es : List ExprTree). NoneInAll R es) (sym (trees_next all i e within here)) (none_more R h n)

  -- the first place is in the next one
  pub found_next : (all : List (Bor Expr)) (i : ℕ) (e : Bor Expr) → i < length all → e ≡ get_or all i e
      → (d : ExprTree) (new : List ExprTree) → NoneInAll R (map lent (take i all)) → FirstIn R (lent e) d
      → new ≡ map lent (take i all) ++ d ∷ map lent (drop (i + 1) all) → FirstOf R (map lent all) new
  found_next all i e within here d new h f k =
      subst₂ (λ (es ds : List ExprTree). FirstOf R es ds) (sym (trees_split all i e within here)) (sym k)
      (first_after R (map lent (drop (i + 1) all)) h f)

  pub found_in : (ps new : List ExprTree) (e q : ExprTree) → ps ≡ children e → FirstOf R ps new
      → q ≡ over_children e new → FirstIn R e q
  found_in ps new e q h f k = subst (λ (x : ExprTree). FirstIn R e x) (sym k)
      (in_child (subst (λ (x : List ExprTree). FirstOf R x new) h f))

  pub found_whole : (ps : List ExprTree) (e q : ExprTree) → ps ≡ children e → NoneInAll R ps → R e q → FirstIn R e q
  found_whole ps e q h n k = at_whole (subst (λ (x : List ExprTree). NoneInAll R x) h n) k

  pub none_whole : (ps : List ExprTree) (e : ExprTree) → ps ≡ children e → NoneInAll R ps → Stays R e → NoneIn R e
  none_whole ps e h n k = none_in (subst (λ (x : List ExprTree). NoneInAll R x) h n) k

-- ---- constants

constants_more : {es : List ExprTree} {e : ExprTree} → AreConstant es → IsConstant e → AreConstant (es ++ e ∷ [])
constants_more no_more k = constant_then k no_more
constants_more (constant_then j h) k = constant_then j (constants_more h k)

constant_among : (before : List ExprTree) (e : ExprTree) (es : List ExprTree) → AreConstant (before ++ e ∷ es)
    → IsConstant e
constant_among [] e es (constant_then h k) = h
constant_among (b ∷ before) e es (constant_then h k) = constant_among before e es k

pub constant_next : (all : List (Bor Expr)) (i : ℕ) (e : Bor Expr) → i < length all → e ≡ get_or all i e
    → AreConstant (map lent (take i all)) → IsConstant (lent e) → AreConstant (map lent (take (i + 1) all))
constant_next all i e within here h k =
    subst (λ (es : List ExprTree). AreConstant es) (sym (trees_next all i e within here)) (constants_more h k)

pub constant_at : (all : List (Bor Expr)) (i : ℕ) (e : Bor Expr) → i < length all → e ≡ get_or all i e
    → AreConstant (map lent all) → IsConstant (lent e)
constant_at all i e within here h = constant_among (map lent (take i all)) (lent e) (map lent (drop (i + 1) all))
    (subst (λ (es : List ExprTree). AreConstant es) (trees_split all i e within here) h)

opened : (e : ExprTree) → IsConstant e → (is_open e ≡ false) × AreConstant (children e)
opened e (constant f h) = (f, h)

pub whole_constant : (ps : List ExprTree) (e : ExprTree) → ps ≡ children e → is_open e ≡ false
    → (answer : Bool) → (IsTrue answer ↔ AreConstant ps) → (IsTrue answer ↔ IsConstant e)
whole_constant ps e h o answer k = (
  (λ a. constant o (subst (λ (x : List ExprTree). AreConstant x) h (k.0 a))),
  (λ c. k.1 (subst (λ (x : List ExprTree). AreConstant x) (sym h) (opened e c).1)),
)

-- ---- copies with a new one among them

pub put_between : (front pushed : List Expr) (x : Expr) (out before after : List ExprTree)
    → map tree front ≡ before → pushed ≡ front ++ x ∷ [] → out ≡ map tree pushed ++ after
    → out ≡ before ++ tree x ∷ after
put_between front pushed x out before after a b d =
    d ∙ ap (λ xs. map tree xs ++ after) b ∙ ap (λ ys. ys ++ after) (map-append tree front (x ∷ []))
    ∙ append_assoc (map tree front) (tree x ∷ []) after ∙ ap (λ ys. ys ++ tree x ∷ after) a

-- ---- answers

pub if_ok : {A E : Type 0} (r : Result A E) (P Q : A → Type 0) → ((a : A) → P a → Q a) → IfOk r P → IfOk r Q
if_ok (Ok a) P Q f h = f a h
if_ok (Err e) P Q f h = h

pub if_found : {A : Type 0} (P : Type 0) (Q S : A → Type 0) → ((a : A) → Q a → S a)
    → (o : Option A) → MatchOption o P Q → IfSome o S
if_found P Q S f None h = tt
if_found P Q S f (Some a) h = f a h
