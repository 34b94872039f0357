-- The row at a place of a list, and those after it.
use Rattle.std.proofs.Common.{◌≡◌, ◌∙◌, ℕ, zero, suc, ◌+◌, List, [], ◌∷◌, drop, Some, sym, ap, arith}
use Rattle.std.specs.Prelude.{slice_get, slice_set}
use Rattle.std.proofs.lemmas.List.{drop_more, drop-set-lt}
use Rattle.std.proofs.lemmas.Option.{get_or_from_slice_get, slice_get_within}

-- the first from a place on is the one at the place
pub get_first : {X : Type 0} (xs : List X) (i : ℕ) (x : X) (rest : List X) → drop i xs ≡ x ∷ rest
    → slice_get xs i ≡ Some x
get_first [] zero x rest e = absurd (cc)
get_first [] (suc i) x rest e = absurd (cc)
get_first (y ∷ ys) zero x rest e = cc
get_first (y ∷ ys) (suc i) x rest e = get_first ys i x rest e

-- and the others come after it, also where another row takes its place
pub others_after : {X : Type 0} (xs ys : List X) (i : ℕ) (x y : X) → slice_get xs i ≡ Some x
    → ys ≡ slice_set xs i y → drop i xs ≡ x ∷ drop (i + 1) ys
others_after xs ys i x y e s =
    drop_more xs i x (slice_get_within xs i x e)
    ∙ ap (λ z. z ∷ drop (i + 1) xs) (get_or_from_slice_get xs i x x e)
    ∙ ap (λ z. x ∷ z) (sym (ap (drop (i + 1)) s ∙ drop-set-lt (i + 1) xs i y (omega arith)))
