-- Variables are the same where the test says so.
use Rattle.std.proofs.Common.{◌≡◌, ◌∙◌, ℕ, List, Bool, true, false, true≢false, refl, ap, sym, subst}
use Rattle.std.proofs.lemmas.Bool.{eqb-true, eq-eqb}
use Rattle.std.proofs.lemmas.Slice.Eq.{bytes_eq-Decides}
use Rattle.aql_tree.specs.declared.syntax.Ident.{Ident}
use Rattle.aql_tree.specs.declared.syntax.Ident.TheVariants.{Name, Num}
use Rattle.aql_meaning.specs.Row.{same_ident}

pub same_is : (x y : Ident) → same_ident x y ≡ true → x ≡ y
same_is (Name a) (Name b) h = ap (λ (n : List ℕ). Name n) ((bytes_eq-Decides a b).0 h)
same_is (Num a) (Num b) h = ap (λ (n : ℕ). Num n) (eqb-true a b h)
same_is (Name a) (Num b) h = absurd (true≢false (sym h))
same_is (Num a) (Name b) h = absurd (true≢false (sym h))

pub same_self : (x : Ident) → same_ident x x ≡ true
same_self (Name a) = (bytes_eq-Decides a a).1 refl
same_self (Num a) = eq-eqb a a refl

pub same_swapped : (x y : Ident) → same_ident x y ≡ false → same_ident y x ≡ false
same_swapped x y h = by (same_ident y x) refl
  where
    by : (b : Bool) → same_ident y x ≡ b → b ≡ false
    by false e = refl
    by true e =
        absurd (true≢false (sym (subst (λ (z : Ident). same_ident z y ≡ true) (same_is y x e) (same_self y))
        ∙ h))

pub same_apart : (x y : Ident) → same_ident x y ≡ false → (z : Ident) → same_ident y z ≡ true
    → same_ident x z ≡ false
same_apart x y h z e = subst (λ (w : Ident). same_ident x w ≡ false) (same_is y z e) h
