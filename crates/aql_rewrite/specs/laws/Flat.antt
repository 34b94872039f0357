-- Rows with things of their own, row after row, and those of them at which a condition holds.
use Rattle.std.proofs.Common.{◌≡◌, ◌∙◌, List, [], ◌∷◌, ◌++◌, map, Bool, true, false, cond, refl, ap, ap₂, sym}
use Rattle.std.specs.Prelude.{filter, flat_map}
use Rattle.std.proofs.lemmas.List.Elements.{filter-append}
use Rattle.aql_meaning.specs.Row.{Row}
use Rattle.aql_meaning.specs.Clauses.{with_each}

pub each_flat : {X : Type 0} (f : Row → X → Row) (g : Row → List X) (rows : List Row)
    → with_each f rows (map g rows) ≡ flat_map (λ row. map (f row) (g row)) rows
each_flat f g [] = refl
each_flat f g (row ∷ rows) = ap (λ ys. map (f row) (g row) ++ ys) (each_flat f g rows)

module _ {X : Type 0} (test : X → Bool) where
  pub filter_map : {Y : Type 0} (f : Y → X) (ys : List Y)
      → filter test (map f ys) ≡ map f (filter (λ y. test (f y)) ys)
  filter_map f [] = refl
  filter_map f (y ∷ ys) = by (test (f y)) (filter_map f ys)
    where
      by : (b : Bool) → filter test (map f ys) ≡ map f (filter (λ z. test (f z)) ys)
          → cond b (f y ∷ filter test (map f ys)) (filter test (map f ys))
          ≡ map f (cond b (y ∷ filter (λ z. test (f z)) ys) (filter (λ z. test (f z)) ys))
      by true e = ap (λ zs. f y ∷ zs) e
      by false e = e

  pub filter_flat : {Y : Type 0} (f : Y → List X) (ys : List Y)
      → filter test (flat_map f ys) ≡ flat_map (λ y. filter test (f y)) ys
  filter_flat f [] = refl
  filter_flat f (y ∷ ys) =
      filter-append test (f y) (flat_map f ys) ∙ ap (λ zs. filter test (f y) ++ zs) (filter_flat f ys)

  -- where all of a part pass or none does, it is enough to test the whole
  pub flat_filter : {Y : Type 0} (first : Y → Bool) (f : Y → List X)
      → ((y : Y) → filter test (f y) ≡ cond (first y) (f y) []) → (ys : List Y)
      → flat_map f (filter first ys) ≡ filter test (flat_map f ys)
  flat_filter first f h [] = refl
  flat_filter first f h (y ∷ ys) =
      by (first y) (h y) ∙ ap (λ zs. filter test (f y) ++ zs) (flat_filter first f h ys)
      ∙ sym (filter-append test (f y) (flat_map f ys))
    where
      by : (b : Bool) → filter test (f y) ≡ cond b (f y) []
          → flat_map f (cond b (y ∷ filter first ys) (filter first ys))
          ≡ filter test (f y) ++ flat_map f (filter first ys)
      by true e = ap (λ zs. zs ++ flat_map f (filter first ys)) (sym e)
      by false e = ap (λ zs. zs ++ flat_map f (filter first ys)) (sym e)

  pub all_alike : {Y : Type 0} (f : Y → X) (b : Bool) → ((y : Y) → test (f y) ≡ b) → (ys : List Y)
      → filter test (map f ys) ≡ cond b (map f ys) []
  all_alike f true h [] = refl
  all_alike f false h [] = refl
  all_alike f true h (y ∷ ys) = ap₂ (λ b xs. cond b (f y ∷ xs) xs) (h y) (all_alike f true h ys)
  all_alike f false h (y ∷ ys) = ap₂ (λ b xs. cond b (f y ∷ xs) xs) (h y) (all_alike f false h ys)

pub flat_same : {X Y : Type 0} (f g : Y → List X) → ((y : Y) → f y ≡ g y) → (ys : List Y)
    → flat_map f ys ≡ flat_map g ys
flat_same f g h [] = refl
flat_same f g h (y ∷ ys) = ap₂ (λ xs zs. xs ++ zs) (h y) (flat_same f g h ys)
