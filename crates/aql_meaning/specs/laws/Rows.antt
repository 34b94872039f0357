-- The order in which two variables are set doesn't matter.
use Rattle.std.proofs.Common.{◌≡◌, ◌∙◌, sym, ap, Bool, true, false, cond, refl}
use mathlib.Core.Path.{fun_ext}
use Rattle.std.specs.Prelude.{Some}
use Rattle.aql_value.specs.Datum.{Datum}
use Rattle.aql_tree.specs.declared.syntax.Ident.{Ident}
use Rattle.aql_meaning.specs.Row.{Row, same_ident, bind}

-- for two variables that nothing is at once
pub binds_swap : (x y : Ident) (row : Row) (v w : Datum)
    → ((z : Ident) → same_ident x z ≡ true → same_ident y z ≡ false)
    → bind x (bind y row w) v ≡ bind y (bind x row v) w
binds_swap x y row v w apart = fun_ext (λ z. by z (same_ident x z) refl) where
  by : (z : Ident) (b : Bool) → same_ident x z ≡ b → bind x (bind y row w) v z ≡ bind y (bind x row v) w z
  by z true e =
      ap (λ b. cond b (Some v) (bind y row w z)) e
      ∙ sym (ap (λ b. cond b (Some w) (bind x row v z)) (apart z e) ∙ ap (λ b. cond b (Some v) (row z)) e)
  by z false e =
      ap (λ b. cond b (Some v) (bind y row w z)) e
      ∙ ap (λ t. cond (same_ident y z) (Some w) t) (sym (ap (λ b. cond b (Some v) (row z)) e))
