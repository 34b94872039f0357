-- The attribute of a name, by the first attribute.
use Rattle.std.proofs.Common.{◌≡◌, ◌∙◌, ℕ, List, ◌∷◌, Bool, cond, refl, ap}
use Rattle.std.specs.Prelude.{Some, bytes_eq}
use Rattle.std.specs.declared.cmp.Ordering.{Ordering}
use Rattle.std.specs.declared.cmp.Ordering.TheVariants.{Less, Equal, Greater}
use Rattle.std.specs.Ordering.{nat_cmp, is_eq, match_ordering}
use Rattle.std.specs.Cmp.Lexicographic.{slice_cmp}
use Rattle.std.proofs.lemmas.Map.Text.{is_eq-slice_cmp}
use Rattle.aql_value.specs.Datum.{Datum}
use Rattle.aql_value.specs.Attributes.{attribute}

by_equality : {X : Type 0} (o : Ordering) (x y : X) → match_ordering o x y x ≡ cond (is_eq o) y x
by_equality Less x y = refl
by_equality Equal x y = refl
by_equality Greater x y = refl

pub named_first : (k : List ℕ) (f : List ℕ × Datum) (fs : List (List ℕ × Datum))
    → attribute k (f ∷ fs) ≡ cond (bytes_eq k f.0) (Some f.1) (attribute k fs)
named_first k f fs = by_equality (slice_cmp nat_cmp k f.0) (attribute k fs) (Some f.1)
    ∙ ap (λ (b : Bool). cond b (Some f.1) (attribute k fs)) (is_eq-slice_cmp k f.0)
