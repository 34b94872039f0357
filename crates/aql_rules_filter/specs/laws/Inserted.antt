-- What is sorted stays so with more elements put in at their places.
use Rattle.std.proofs.Common.{◌≡◌, ◌∙◌, ℕ, suc, ◌+◌, ◌<◌, List, [], ◌∷◌, ◌++◌, length, get_or, Bool, true, false, cond, refl, ap, sym, subst, not, arith}
use Rattle.std.specs.Prelude.{filter}
use Rattle.std.specs.Cmp.{IsStrictWeakOrder}
use Rattle.std.specs.List.{AllByRecursion}
use Rattle.std.specs.List.Sorted.{IsPermutation, IsSortedBy}
use Rattle.std.proofs.lemmas.List.Sorted.{IsPermutation-refl, IsPermutation-cons, IsPermutation-trans, IsPermutation-swap, IsPermutation-append_comm}
use Rattle.aql_meaning.specs.laws.SomeOrder.{Ascends, AscendsAll, sorted_of_ascends}
use Rattle.aql_rules_filter.specs.laws.Permuted.{others, with_others, passed_still}

abbrev insert : {X : Type 0} → (X → X → Bool) → X → List X → List X
insert lt x [] = x ∷ []
insert lt x (y ∷ ys) = cond (lt y x) (y ∷ insert lt x ys) (x ∷ y ∷ ys)

abbrev insert_all : {X : Type 0} → (X → X → Bool) → List X → List X → List X
insert_all lt [] ys = ys
insert_all lt (x ∷ xs) ys = insert lt x (insert_all lt xs ys)

module _ {X : Type 0} (lt : X → X → Bool) (o : IsStrictWeakOrder lt) where
  insert_permutes : (x : X) (xs : List X) → IsPermutation (x ∷ xs) (insert lt x xs)
  insert_permutes x [] = IsPermutation-refl (x ∷ [])
  insert_permutes x (y ∷ ys) = by (lt y x) (insert_permutes x ys)
    where
      by : (b : Bool) → IsPermutation (x ∷ ys) (insert lt x ys)
          → IsPermutation (x ∷ y ∷ ys) (cond b (y ∷ insert lt x ys) (x ∷ y ∷ ys))
      by true h = IsPermutation-trans _ _ _
          (IsPermutation-swap (x ∷ y ∷ ys) (y ∷ x ∷ ys) 0 1 (omega arith) (omega arith) refl)
          (IsPermutation-cons y _ _ h)
      by false h = IsPermutation-refl (x ∷ y ∷ ys)

  all_permute : (xs ys : List X) → IsPermutation (xs ++ ys) (insert_all lt xs ys)
  all_permute [] ys = IsPermutation-refl ys
  all_permute (x ∷ xs) ys =
      IsPermutation-trans _ _ _ (IsPermutation-cons x _ _ (all_permute xs ys))
      (insert_permutes x (insert_all lt xs ys))

  insert_after : (z x : X) (xs : List X) → lt x z ≡ false → Ascends lt o z xs
      → Ascends lt o z (insert lt x xs)
  insert_after z x [] h a = (h, tt)
  insert_after z x (y ∷ ys) h a = by (lt y x) refl (λ e. insert_after y x ys (o.one_way y x e) a.1)
    where
      by : (b : Bool) → lt y x ≡ b → (lt y x ≡ true → Ascends lt o y (insert lt x ys))
          → Ascends lt o z (cond b (y ∷ insert lt x ys) (x ∷ y ∷ ys))
      by true e f = (a.0, f e)
      by false e f = (h, (e, a.1))

  insert_ascends : (x : X) (xs : List X) → AscendsAll lt o xs → AscendsAll lt o (insert lt x xs)
  insert_ascends x [] a = tt
  insert_ascends x (y ∷ ys) a = by (lt y x) refl
    where
      by : (b : Bool) → lt y x ≡ b → AscendsAll lt o (cond b (y ∷ insert lt x ys) (x ∷ y ∷ ys))
      by true e = insert_after y x ys (o.one_way y x e) a
      by false e = (e, a)

  all_ascend : (xs ys : List X) → AscendsAll lt o ys → AscendsAll lt o (insert_all lt xs ys)
  all_ascend [] ys a = a
  all_ascend (x ∷ xs) ys a = insert_ascends x (insert_all lt xs ys) (all_ascend xs ys a)

  ascends_after : (x : X) (xs : List X) → IsSortedBy lt (x ∷ xs) → Ascends lt o x xs
  ascends_after x [] s = tt
  ascends_after x (y ∷ ys) s =
      (s 0 x (omega arith) (omega arith), ascends_after y ys (λ k d l h. rest k d (omega arith)))
    where
      rest : (k : ℕ) (d : X) → k + 1 < length (y ∷ ys)
          → lt (get_or (y ∷ ys) (k + 1) d) (get_or (y ∷ ys) k d) ≡ false
      rest k d h =
          let e : suc k + 1 ≡ suc (k + 1) = omega arith in
          subst (λ (n : ℕ). lt (get_or (x ∷ y ∷ ys) n d) (get_or (x ∷ y ∷ ys) (suc k) d) ≡ false) e
          (s (suc k) d (omega arith) (omega arith))

  ascends_of : (xs : List X) → IsSortedBy lt xs → AscendsAll lt o xs
  ascends_of [] s = tt
  ascends_of (x ∷ xs) s = ascends_after x xs s

  module _ (test : X → Bool) where
    abbrev Fails : X → Type 0
    Fails x = test x ≡ false

    others_fail : (xs : List X) → AllByRecursion Fails (others test xs)
    others_fail [] = tt
    others_fail (x ∷ xs) = by (test x) refl (others_fail xs)
      where
        by : (b : Bool) → test x ≡ b → AllByRecursion Fails (others test xs)
            → AllByRecursion Fails (cond (not b) (x ∷ others test xs) (others test xs))
        by true e k = k
        by false e k = (e, k)

    insert_passed : (x : X) (xs : List X) → test x ≡ false → filter test (insert lt x xs) ≡ filter test xs
    insert_passed x [] e = ap (λ b. cond b (x ∷ []) []) e
    insert_passed x (y ∷ ys) e = by (lt y x) (insert_passed x ys e)
      where
        by : (b : Bool) → filter test (insert lt x ys) ≡ filter test ys
            → filter test (cond b (y ∷ insert lt x ys) (x ∷ y ∷ ys)) ≡ filter test (y ∷ ys)
        by true h = ap (λ zs. cond (test y) (y ∷ zs) zs) h
        by false h = ap (λ b. cond b (x ∷ filter test (y ∷ ys)) (filter test (y ∷ ys))) e

    all_passed : (xs ys : List X) → AllByRecursion Fails xs
        → filter test (insert_all lt xs ys) ≡ filter test ys
    all_passed [] ys h = refl
    all_passed (x ∷ xs) ys h = insert_passed x (insert_all lt xs ys) h.0 ∙ all_passed xs ys h.1

    -- a sorted permutation of what passes is what passes of a sorted permutation
    pub sorted_filter_of : (xs out : List X) → IsPermutation (filter test xs) out → IsSortedBy lt out
        → (mid : List X) × IsPermutation xs mid × IsSortedBy lt mid × (out ≡ filter test mid)
    sorted_filter_of xs out p s =
        let more = others test xs in
        let mid = insert_all lt more out in (
          mid,
          IsPermutation-trans xs (out ++ more) mid (with_others test xs out p)
              (IsPermutation-trans (out ++ more) (more ++ out) mid (IsPermutation-append_comm out more)
              (all_permute more out)),
          sorted_of_ascends lt o mid (all_ascend more out (ascends_of out s)),
          sym (all_passed more out (others_fail xs) ∙ passed_still test xs out p),
        )
