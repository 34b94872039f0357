-- A variable that is not used may be set anew, and may go; one that is not there is not used.
use Rattle.std.proofs.Common.{◌≡◌, ◌∙◌, List, [], ◌∷◌, Bool, true, false, true≢false, cond, refl, ap, sym, subst}
use Rattle.std.specs.Prelude.{Option, Some, None, ◌||◌, unwrap_or}
use Rattle.std.proofs.lemmas.Bool.{or_parts}
use Rattle.aql_value.specs.Datum.{Datum, null}
use Rattle.aql_value.specs.Contents.{at_name}
use Rattle.aql_tree.specs.declared.syntax.Ident.{Ident}
use Rattle.aql_meaning.specs.Row.{Row, bind, same_ident}
use Rattle.aql_meaning.specs.Uses.{Use, Whole, Attribute, Uses, used_variable, AgreeAt, Agree, is_used}
use Rattle.aql_plan.specs.Variables.{are_among}
use Rattle.aql_meaning.specs.laws.Idents.{same_is}
use Rattle.aql_rewrite.specs.Swaps.{KeepsVariables}
use Rattle.aql_rewrite.specs.laws.Among.{has, both}

other_value : {X : Type 0} (b : Bool) (f : Option Datum → X) (v : Datum) (o : Option Datum) → b ≡ false
    → f o ≡ f (cond b (Some v) o)
other_value true f v o h = absurd (true≢false h)
other_value false f v o h = refl

agree_at : (u : Use) (x : Ident) (row : Row) (v : Datum) → same_ident x (used_variable u) ≡ false
    → AgreeAt u row (bind x row v)
agree_at (Whole y) x row v h = other_value (same_ident x y) (λ o. unwrap_or o null) v (row y) h
agree_at (Attribute y name) x row v h =
    other_value (same_ident x y) (λ o. at_name (unwrap_or o null) name) v (row y) h

pub agree_unused : (us : Uses) (x : Ident) (row : Row) (v : Datum) → is_used x us ≡ false
    → Agree us row (bind x row v)
agree_unused [] x row v h = tt
agree_unused (u ∷ us) x row v h =
    let k = or_parts (same_ident x (used_variable u)) (is_used x us) h in
    (agree_at u x row v k.0, agree_unused us x row v k.1)

-- one that is used is another one
pub used_other : (us : Uses) (x z : Ident) → is_used x us ≡ false → is_used z us ≡ true
    → same_ident z x ≡ false
used_other us x z h g = by (same_ident z x) refl
  where
    by : (b : Bool) → same_ident z x ≡ b → b ≡ false
    by false e = refl
    by true e =
        absurd (true≢false (sym (subst (λ (y : Ident). is_used y us ≡ true) (same_is z x e) g) ∙ h))

-- all others that are used are still there
pub one_gone : (us : Uses) (x : Ident) (xs : List Ident) → is_used x us ≡ false
    → KeepsVariables None us (x ∷ xs) xs
one_gone us x xs h z g m = sym (ap (λ (b : Bool). b || has z xs) (used_other us x z h g)) ∙ m

-- ---- variables that are not there

not_same : (x z : Ident) (zs : List Ident) → has x zs ≡ false → has z zs ≡ true → same_ident x z ≡ false
not_same x z zs h k = by (same_ident x z) refl
  where
    by : (b : Bool) → same_ident x z ≡ b → b ≡ false
    by false e = refl
    by true e = absurd (true≢false
        (sym (subst (λ (y : Ident). has y zs ≡ true) (sym (same_is x z e)) k) ∙ h))

pub unused_from : (x : Ident) (us : Uses) (zs : List Ident) → has x zs ≡ false → are_among us zs ≡ true
    → is_used x us ≡ false
unused_from x [] zs h k = refl
unused_from x (u ∷ us) zs h k =
    let l = both (has (used_variable u) zs) (are_among us zs) k in
    ap (λ (b : Bool). b || is_used x us) (not_same x (used_variable u) zs h l.0) ∙ unused_from x us zs h l.1
