-- Lists of which no later element is less than an earlier one, and elements that are put into such a list at
-- their places.
use Rattle.std.proofs.Common.{◌≡◌, ◌∙◌, ℕ, zero, suc, ◌≤◌, List, [], ◌∷◌, ◌++◌, take, drop, length, Bool, true, false, true≢false, cond, not, refl, ap, sym, subst, arith}
use Rattle.std.specs.Prelude.{filter, IsPermutation}
use Rattle.std.specs.Cmp.{IsStrictWeakOrder}
use Rattle.std.specs.List.{AllByRecursion}
use Rattle.std.proofs.lemmas.List.{append-nil}
use Rattle.std.proofs.lemmas.List.Sorted.{IsPermutation-refl, IsPermutation-cons, IsPermutation-trans, IsPermutation-swap, IsPermutation-middle}
use Rattle.aql_value.specs.laws.Alls.{all_more}
use Rattle.aql_index.specs.laws.Passing.{InPairs}

module _ {X : Type 0} (lt : X → X → Bool) where
  -- in front of the first that it comes before
  abbrev pub put : X → List X → List X
  put r [] = r ∷ []
  put r (y ∷ ys) = cond (lt r y) (r ∷ y ∷ ys) (y ∷ put r ys)

  abbrev pub put_all : List X → List X → List X
  put_all [] xs = xs
  put_all (r ∷ rs) xs = put r (put_all rs xs)

  pub put_permutes : (r : X) (xs : List X) → IsPermutation (r ∷ xs) (put r xs)
  put_permutes r [] = IsPermutation-refl (r ∷ [])
  put_permutes r (y ∷ ys) = by (lt r y) (put_permutes r ys)
    where
      by : (b : Bool) → IsPermutation (r ∷ ys) (put r ys)
          → IsPermutation (r ∷ y ∷ ys) (cond b (r ∷ y ∷ ys) (y ∷ put r ys))
      by true k = IsPermutation-refl (r ∷ y ∷ ys)
      by false k = IsPermutation-trans _ _ _
          (IsPermutation-swap (r ∷ y ∷ ys) (y ∷ r ∷ ys) 0 1 (omega arith) (omega arith) refl)
          (IsPermutation-cons y _ _ k)

  pub put_all_permutes : (rs xs : List X) → IsPermutation (xs ++ rs) (put_all rs xs)
  put_all_permutes [] xs =
      subst (λ (ys : List X). IsPermutation ys xs) (sym (append-nil xs)) (IsPermutation-refl xs)
  put_all_permutes (r ∷ rs) xs = IsPermutation-trans _ _ _ (IsPermutation-middle xs r rs)
      (IsPermutation-trans _ _ _ (IsPermutation-cons r _ _ (put_all_permutes rs xs))
      (put_permutes r (put_all rs xs)))

  put_has : (P : X → Type 0) (r : X) (xs : List X) → P r → AllByRecursion P xs → AllByRecursion P (put r xs)
  put_has P r [] h k = (h, tt)
  put_has P r (y ∷ ys) h k = by (lt r y) (put_has P r ys h k.1)
    where
      by : (b : Bool) → AllByRecursion P (put r ys)
          → AllByRecursion P (cond b (r ∷ y ∷ ys) (y ∷ put r ys))
      by true more = (h, k)
      by false more = (k.0, more)

  -- how many it does not come before
  abbrev pub upto : X → List X → ℕ
  upto r xs = length (filter (λ y. not (lt r y)) xs)

  put_upto : (s r : X) (xs : List X) → upto s xs ≤ upto s (put r xs)
  put_upto s r [] = omega arith
  put_upto s r (y ∷ ys) = by (lt r y) (not (lt s r)) (not (lt s y)) refl refl (put_upto s r ys)
    where
      kept : List X → List X
      kept xs = filter (λ z. not (lt s z)) xs

      by : (a b c : Bool) → not (lt s r) ≡ b → not (lt s y) ≡ c → upto s ys ≤ upto s (put r ys)
          → upto s (y ∷ ys) ≤ upto s (cond a (r ∷ y ∷ ys) (y ∷ put r ys))
      by true true c e f k =
          subst (λ (t : Bool). upto s (y ∷ ys) ≤ length (cond t (r ∷ kept (y ∷ ys)) (kept (y ∷ ys)))) (sym e)
          (omega arith)
      by true false c e f k =
          subst (λ (t : Bool). upto s (y ∷ ys) ≤ length (cond t (r ∷ kept (y ∷ ys)) (kept (y ∷ ys)))) (sym e)
          (omega arith)
      by false b true e f k =
          subst (λ (t : Bool). length (cond t (y ∷ kept ys) (kept ys))
          ≤ length (cond t (y ∷ kept (put r ys)) (kept (put r ys)))) (sym f) (omega (arith, k))
      by false b false e f k =
          subst (λ (t : Bool). length (cond t (y ∷ kept ys) (kept ys))
          ≤ length (cond t (y ∷ kept (put r ys)) (kept (put r ys)))) (sym f) k

  put_all_upto : (s : X) (rs xs : List X) → upto s xs ≤ upto s (put_all rs xs)
  put_all_upto s [] xs = omega arith
  put_all_upto s (r ∷ rs) xs =
      let a : upto s xs ≤ upto s (put_all rs xs) = put_all_upto s rs xs in
      let b : upto s (put_all rs xs) ≤ upto s (put r (put_all rs xs)) = put_upto s r (put_all rs xs) in
      omega (arith, a, b)

  -- the first of a list, and the others
  some_taken : (P : X → Type 0) (n : ℕ) (xs : List X) → AllByRecursion P xs → AllByRecursion P (take n xs)
  some_taken P zero xs h = tt
  some_taken P (suc n) [] h = tt
  some_taken P (suc n) (x ∷ xs) h = (h.0, some_taken P n xs h.1)

  pub pairs_take : (n : ℕ) (xs : List X) → InPairs lt xs → InPairs lt (take n xs)
  pairs_take zero xs h = tt
  pairs_take (suc n) [] h = tt
  pairs_take (suc n) (x ∷ xs) h = (some_taken (λ w. lt w x ≡ false) n xs h.0, pairs_take n xs h.1)

  pairs_drop : (n : ℕ) (xs : List X) (x : X) → AllByRecursion (λ w. lt w x ≡ false) xs
      → AllByRecursion (λ w. lt w x ≡ false) (drop n xs)
  pairs_drop zero xs x h = h
  pairs_drop (suc n) [] x h = tt
  pairs_drop (suc n) (y ∷ ys) x h = pairs_drop n ys x h.1

  -- each of those after the first n has n that it does not come before
  pub upto_taken : (n : ℕ) (xs : List X) → InPairs lt xs
      → AllByRecursion (λ r. n ≤ upto r (take n xs)) (drop n xs)
  upto_taken zero xs h = all_any xs
    where
      all_any : (ys : List X) → AllByRecursion (λ r. 0 ≤ upto r (take 0 xs)) ys
      all_any [] = tt
      all_any (y ∷ ys) = (omega arith, all_any ys)
  upto_taken (suc n) [] h = tt
  upto_taken (suc n) (x ∷ xs) h = both (drop n xs) (upto_taken n xs h.1) (pairs_drop n xs x h.0)
    where
      kept : X → List X
      kept r = filter (λ w. not (lt r w)) (take n xs)

      one : (r : X) → n ≤ upto r (take n xs) → lt r x ≡ false → suc n ≤ upto r (x ∷ take n xs)
      one r k e = subst (λ (b : Bool). suc n ≤ length (cond (not b) (x ∷ kept r) (kept r))) (sym e)
          (omega (arith, k))

      both : (rs : List X) → AllByRecursion (λ r. n ≤ upto r (take n xs)) rs
          → AllByRecursion (λ r. lt r x ≡ false) rs
          → AllByRecursion (λ r. suc n ≤ upto r (x ∷ take n xs)) rs
      both [] a b = tt
      both (r ∷ rs) a b = (one r a.0 b.0, both rs a.1 b.1)

module _ {X : Type 0} (lt : X → X → Bool) (o : IsStrictWeakOrder lt) where
  pub put_in_pairs : (r : X) (xs : List X) → InPairs lt xs → InPairs lt (put lt r xs)
  put_in_pairs r [] h = (tt, tt)
  put_in_pairs r (y ∷ ys) h = by (lt r y) refl (put_in_pairs r ys h.1)
    where
      by : (b : Bool) → lt r y ≡ b → InPairs lt (put lt r ys)
          → InPairs lt (cond b (r ∷ y ∷ ys) (y ∷ put lt r ys))
      by true e k = (
        (
          o.one_way r y e,
          all_more (λ w. lt w y ≡ false) (λ w. lt w r ≡ false)
              (λ w a. o.chain w y r a (o.one_way r y e)) ys h.0,
        ),
        h,
      )
      by false e k = (put_has lt (λ w. lt w y ≡ false) r ys e h.0, k)

  pub put_all_in_pairs : (rs xs : List X) → InPairs lt xs → InPairs lt (put_all lt rs xs)
  put_all_in_pairs [] xs h = h
  put_all_in_pairs (r ∷ rs) xs h = put_in_pairs r (put_all lt rs xs) (put_all_in_pairs rs xs h)

  -- what comes before an element comes before all later ones
  before_later : (r y : X) → lt r y ≡ true → (ys : List X) → AllByRecursion (λ w. lt w y ≡ false) ys
      → filter (λ z. not (lt r z)) ys ≡ []
  before_later r y e [] h = refl
  before_later r y e (z ∷ ys) h = by (lt r z) refl (before_later r y e ys h.1)
    where
      by : (b : Bool) → lt r z ≡ b → filter (λ w. not (lt r w)) ys ≡ []
          → cond (not (lt r z)) (z ∷ filter (λ w. not (lt r w)) ys) (filter (λ w. not (lt r w)) ys) ≡ []
      by true f k =
          ap (λ c. cond (not c) (z ∷ filter (λ w. not (lt r w)) ys) (filter (λ w. not (lt r w)) ys)) f ∙ k
      by false f k = absurd (true≢false (sym e ∙ o.chain r z y f h.0))

  put_taken : (n : ℕ) (r : X) (xs : List X) → InPairs lt xs → n ≤ upto lt r xs
      → take n (put lt r xs) ≡ take n xs
  put_taken zero r xs h k = refl
  put_taken (suc n) r [] h k = absurd (omega (arith, k))
  put_taken (suc n) r (y ∷ ys) h k = by (lt r y) refl (put_taken n r ys h.1) k
    where
      kept : List X
      kept = filter (λ w. not (lt r w)) ys

      by : (b : Bool) → lt r y ≡ b → (n ≤ upto lt r ys → take n (put lt r ys) ≡ take n ys)
          → suc n ≤ length (cond (not b) (y ∷ kept) kept)
          → take (suc n) (cond b (r ∷ y ∷ ys) (y ∷ put lt r ys)) ≡ take (suc n) (y ∷ ys)
      by true e ih m =
          let none : length (filter (λ w. not (lt r w)) ys) ≡ 0 = ap length (before_later r y e ys h.0) in
          absurd (omega (arith, m, none))
      by false e ih m = ap (λ zs. y ∷ zs) (ih (omega (arith, m)))

  -- those that come before none of the first n do not change these
  pub put_all_taken : (n : ℕ) (rs xs : List X) → InPairs lt xs → AllByRecursion (λ r. n ≤ upto lt r xs) rs
      → take n (put_all lt rs xs) ≡ take n xs
  put_all_taken n [] xs h k = refl
  put_all_taken n (r ∷ rs) xs h k =
      let a : upto lt r xs ≤ upto lt r (put_all lt rs xs) = put_all_upto lt r rs xs in
      let b : n ≤ upto lt r xs = k.0 in
      put_taken n r (put_all lt rs xs) (put_all_in_pairs rs xs h) (omega (arith, a, b))
      ∙ put_all_taken n rs xs h k.1
