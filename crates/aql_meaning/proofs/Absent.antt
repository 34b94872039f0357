-- Values that a test tells apart, and values that are not in a list.
use Rattle.std.proofs.Common.{◌≡◌, ◌∙◌, refl, sym, ap, inl, inr, List, [], ◌∷◌, Bool, true, false, true≢false, ◌||◌}
use Rattle.std.specs.List.{list_any}
use Rattle.aql_value.specs.Datum.{Datum}
use Rattle.aql_value.specs.Contents.{same}
use Rattle.aql_meaning.specs.Paths.{IsIn}

pub differ : (t u : Datum) → same t t ≡ true → same t u ≡ false → t ≡ u → ⊥
differ t u h k e = true≢false (sym h ∙ ap (same t) e ∙ k)

neither : (a b : Bool) → (a || b) ≡ false → (a ≡ false) × (b ≡ false)
neither true b h = absurd (true≢false h)
neither false b h = (refl, h)

pub absent : (t : Datum) (us : List Datum) → same t t ≡ true → list_any (same t) us ≡ false → IsIn t us → ⊥
absent t [] h k i = i
absent t (u ∷ us) h k (inl e) = differ t u h (neither (same t u) (list_any (same t) us) k).0 e
absent t (u ∷ us) h k (inr i) = absent t us h (neither (same t u) (list_any (same t) us) k).1 i
