-- A permutation of what passes a test is what passes of a permutation.
use Rattle.std.proofs.Common.{◌≡◌, ◌∙◌, List, [], ◌∷◌, ◌++◌, Bool, true, false, cond, refl, ap, ap₂, sym, not}
use Rattle.std.specs.Prelude.{filter, IsPermutation}
use Rattle.std.specs.List.{AllZip}
use Rattle.std.proofs.lemmas.List.{append-nil}
use Rattle.std.proofs.lemmas.List.Elements.{filter-append}
use Rattle.std.proofs.lemmas.List.Sorted.{IsPermutation-filter_both, IsPermutation-append_left, IsPermutation-trans}
use Rattle.aql_meaning.specs.laws.Shuffles.{alike_permutation}

module _ {X : Type 0} (test : X → Bool) where
  abbrev Passes : X → X → Type 0
  Passes x y = test x ≡ true

  all_passed : (xs : List X) → AllZip Passes (filter test xs) (filter test xs)
  all_passed [] = tt
  all_passed (x ∷ xs) = by (test x) refl (all_passed xs)
    where
      by : (b : Bool) → test x ≡ b → AllZip Passes (filter test xs) (filter test xs)
          → AllZip Passes (cond b (x ∷ filter test xs) (filter test xs))
          (cond b (x ∷ filter test xs) (filter test xs))
      by true e k = (e, k)
      by false e k = k

  all_stay : (xs ys : List X) → AllZip Passes xs ys → filter test xs ≡ xs
  all_stay [] [] k = refl
  all_stay [] (y ∷ ys) k = refl
  all_stay (x ∷ xs) [] k = absurd k
  all_stay (x ∷ xs) (y ∷ ys) k = ap₂ (λ b zs. cond b (x ∷ zs) zs) k.0 (all_stay xs ys k.1)

  abbrev pub others : List X → List X
  others xs = filter (λ x. not (test x)) xs

  pub none_stays : (xs : List X) → filter test (others xs) ≡ []
  none_stays [] = refl
  none_stays (x ∷ xs) = by (test x) refl (none_stays xs)
    where
      by : (b : Bool) → test x ≡ b → filter test (others xs) ≡ []
          → filter test (cond (not b) (x ∷ others xs) (others xs)) ≡ []
      by true e k = k
      by false e k = ap (λ b. cond b (x ∷ filter test (others xs)) (filter test (others xs))) e ∙ k

  pub passed_still : (xs out : List X) → IsPermutation (filter test xs) out → filter test out ≡ out
  passed_still xs out p =
      let a = alike_permutation Passes (filter test xs) out (filter test xs) p (all_passed xs) in
      all_stay out a.0 a.2

  pub with_others : (xs out : List X) → IsPermutation (filter test xs) out
      → IsPermutation xs (out ++ others xs)
  with_others xs out p = IsPermutation-trans xs (filter test xs ++ others xs) (out ++ others xs)
      (IsPermutation-filter_both test (λ x. not (test x)) (λ x. refl) xs)
      (IsPermutation-append_left (others xs) (filter test xs) out p)

  pub filter_of : (xs out : List X) → IsPermutation (filter test xs) out
      → (mid : List X) × IsPermutation xs mid × (out ≡ filter test mid)
  filter_of xs out p = (
    out ++ others xs,
    with_others xs out p,
    sym (filter-append test out (others xs)
        ∙ ap₂ (λ ys zs. ys ++ zs) (passed_still xs out p) (none_stays xs)
        ∙ append-nil out),
  )
