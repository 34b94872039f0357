-- Lists to whose elements a function is applied: one after another, permuted, and in an order.
use Rattle.std.proofs.Common.{◌≡◌, ◌∙◌, List, [], ◌∷◌, ◌++◌, map, Bool, false, refl, ap, ap₂, sym}
use Rattle.std.specs.Prelude.{IsPermutation}
use Rattle.std.specs.List.{AllByRecursion, AllZip}
use Rattle.std.proofs.lemmas.List.{map-append}
use Rattle.aql_value.specs.laws.Alls.{all_more, all_mapped}
use Rattle.aql_meaning.specs.laws.Shuffles.{alike_permutation}
use Rattle.aql_index.specs.laws.Passing.{InPairs}
use Rattle.aql_aggregate.specs.Theorems.{all_of}

module _ {X Y : Type 0} (f : X → Y) where
  pub map_of_all : (lists : List (List X)) → all_of (map (map f) lists) ≡ map f (all_of lists)
  map_of_all [] = refl
  map_of_all (l ∷ lists) = ap (λ ys. map f l ++ ys) (map_of_all lists) ∙ sym (map-append f l (all_of lists))

  abbrev IsOf : Y → X → Type 0
  IsOf y x = y ≡ f x

  each_is : (xs : List X) → AllZip IsOf (map f xs) xs
  each_is [] = tt
  each_is (x ∷ xs) = (refl, each_is xs)

  all_are : (ys : List Y) (xs : List X) → AllZip IsOf ys xs → ys ≡ map f xs
  all_are [] [] h = refl
  all_are [] (x ∷ xs) h = absurd h
  all_are (y ∷ ys) [] h = absurd h
  all_are (y ∷ ys) (x ∷ xs) h = ap₂ (λ z zs. z ∷ zs) h.0 (all_are ys xs h.1)

  pub unmapped : (xs : List X) (out : List Y) → IsPermutation (map f xs) out
      → (zs : List X) × IsPermutation xs zs × (out ≡ map f zs)
  unmapped xs out p =
      let a = alike_permutation IsOf (map f xs) out xs p (each_is xs) in
      (a.0, a.1, all_are out a.0 a.2)

  -- ---- pairs in order

  module _ (lt : Y → Y → Bool) (less : X → X → Bool) (same : (a b : X) → lt (f a) (f b) ≡ less a b) where
    pub pairs_map : (xs : List X) → InPairs less xs → InPairs lt (map f xs)
    pairs_map [] h = tt
    pairs_map (x ∷ xs) h = (
      all_mapped (λ y. lt y (f x) ≡ false) f xs
          (all_more (λ z. less z x ≡ false) (λ z. lt (f z) (f x) ≡ false) (λ z k. same z x ∙ k) xs h.0),
      pairs_map xs h.1,
    )

    none_before : (x : X) (xs : List X) → AllByRecursion (λ y. lt y (f x) ≡ false) (map f xs)
        → AllByRecursion (λ z. less z x ≡ false) xs
    none_before x [] h = tt
    none_before x (z ∷ xs) h = (sym (same z x) ∙ h.0, none_before x xs h.1)

    pub pairs_unmap : (xs : List X) → InPairs lt (map f xs) → InPairs less xs
    pairs_unmap [] h = tt
    pairs_unmap (x ∷ xs) h = (none_before x xs h.0, pairs_unmap xs h.1)
