-- Tests that hold exactly where something does, one after another.
use Rattle.std.proofs.Common.{◌≡◌, ◌∙◌, ap, sym, refl, subst, ℕ, ◌<◌, ◌+◌, List, [], ◌∷◌, ◌++◌, length, get_or, drop, Bool, true, false, true≢false}
use Rattle.std.specs.Prelude.{◌↔◌, IsTrue}
use Rattle.std.specs.List.{AllByRecursion}
use Rattle.std.proofs.lemmas.List.{drop_more}
use Rattle.aql_value.specs.laws.Alls.{all_append, all_parts}
use Rattle.aql_meaning.specs.Numbered.{IsNumber}
use Rattle.aql_plan.specs.Plan.{Plan, Over, top}
use Rattle.aql_plan.specs.Variables.{vars_set, set_once}

-- what is left of a list, from one place on
pub left : {X : Type 0} (xs : List X) (i : ℕ) (x : X) → i < length xs → x ≡ get_or xs i x
    → drop i xs ≡ x ∷ drop (i + 1) xs
left xs i x h e = drop_more xs i x h ∙ ap (λ y. y ∷ drop (i + 1) xs) (sym e)

-- two tests
pub both : {A B W : Type 0} (r s : Bool) → (A × B) ↔ W → IsTrue r ↔ A → IsTrue s ↔ B → r ≡ true → IsTrue s ↔ W
both r s h k l e = ((λ t. h.0 (k.0 e, l.0 t)), (λ w. l.1 (h.1 w).1))

pub first_fails : {A B W : Type 0} (r : Bool) → (A × B) ↔ W → IsTrue r ↔ A → r ≡ false → IsTrue r ↔ W
first_fails r h k e = ((λ t. absurd (true≢false (sym t ∙ e))), (λ w. k.1 (h.1 w).0))

pub joined : {X : Type 0} (P : X → Type 0) (xs ys : List X)
    → (AllByRecursion P xs × AllByRecursion P ys) ↔ AllByRecursion P (xs ++ ys)
joined P xs ys = ((λ h. all_append P xs ys h.0 h.1), (λ h. all_parts P xs ys h))

-- two tests of one thing
pub same_test : {P : Type 0} (r b : Bool) → IsTrue r ↔ P → P ↔ (b ≡ true) → r ≡ b
same_test true b h k = sym (k.0 (h.0 refl))
same_test false true h k = h.1 (k.1 refl)
same_test false false h k = refl

-- the variables of a plan are those of its node and those below
pub sets_over : (p b : Plan) → p ≡ Over b (top p)
    → (AllByRecursion IsNumber (set_once (top p)) × AllByRecursion IsNumber (vars_set b))
    ↔ AllByRecursion IsNumber (vars_set p)
sets_over p b e = subst (λ (q : Plan). (AllByRecursion IsNumber (set_once (top p)) × AllByRecursion IsNumber (vars_set b))
    ↔ AllByRecursion IsNumber (vars_set q)) (sym e) (joined IsNumber (set_once (top p)) (vars_set b))

-- three that hold, and three that are tested
pub six : {A B C D E F : Type 0} (r : Bool) → A × B × C → IsTrue r ↔ (D × E × F)
    → IsTrue r ↔ (A × B × C × D × E × F)
six r p h = (
  (λ t. let d = h.0 t in (p.0, p.1, p.2, d.0, d.1, d.2)),
  (λ q. h.1 (q.3, q.4, q.5)),
)
