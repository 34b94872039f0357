-- The first of a sorted list stand for all of it: what comes later need be compared with them alone.
use Rattle.std.proofs.Common.{◌≡◌, ◌∙◌, ℕ, ◌+◌, ◌-◌, ◌<◌, ◌≤◌, ◌⊎◌, inl, inr, ◌++◌, List, [], ◌∷◌, length, get_or, take, drop, Bool, true, false, cond, refl, sym, ap, ap₂, subst, arith, append_assoc, length-append, length-drop}
use Rattle.std.specs.List.{All, count_by}
use Rattle.std.specs.Cmp.{IsStrictWeakOrder}
use Rattle.std.specs.List.Sorted.{IsPermutation, IsSortedBy}
use Rattle.std.proofs.lemmas.List.{take-append-drop, take-append-le, take_all, length-take, length-take-le, get_or_append_left, get_or-append_right, get_or-drop, get_or-take}
use Rattle.std.proofs.lemmas.List.Elements.{All-head, All-tail, All-weaker, All-append, All-from_get_or}
use Rattle.std.proofs.lemmas.List.Sums.{sum_by-cons, sum_by-append, count_by-le-length}
use Rattle.std.proofs.lemmas.List.Sorted.{sorted_far, sum_by-IsPermutation, length_permutation, All-permutation, IsPermutation-trans, IsPermutation-append_left, IsPermutation-append_right, IsPermutation-append_comm}
use Rattle.std.proofs.lemmas.Bool.{cases_lt}
use mathlib.Core.Bool.{false≢true}
use Rattle.aql_meaning.specs.laws.SomeOrder.{sorted_exists}

module _ {X : Type 0} (lt : X → X → Bool) (o : IsStrictWeakOrder lt) where
  -- where all are less than a, so many are
  all_less : (a : X) (xs : List X) → All (λ y. lt y a ≡ true) xs → count_by (λ y. lt y a) xs ≡ length xs
  all_less a [] h = refl
  all_less a (x ∷ xs) h =
      let s = sum_by-cons (λ y. cond (lt y a) 1 0) x xs in
      let i = all_less a xs (All-tail (λ y. lt y a ≡ true) x xs h) in
      let e : ◌≡◌ {A = ℕ} (cond (lt x a) 1 0) 1 = ap (λ b. cond {A = ℕ} b 1 0)
      (All-head (λ y. lt y a ≡ true) x xs h) in
      omega (arith, s, i, e)

  none_less : (a : X) (xs : List X) → All (λ y. lt y a ≡ false) xs → count_by (λ y. lt y a) xs ≡ 0
  none_less a [] h = refl
  none_less a (x ∷ xs) h =
      let s = sum_by-cons (λ y. cond (lt y a) 1 0) x xs in
      let i = none_less a xs (All-tail (λ y. lt y a ≡ false) x xs h) in
      let e : ◌≡◌ {A = ℕ} (cond (lt x a) 1 0) 0 = ap (λ b. cond {A = ℕ} b 1 0)
      (All-head (λ y. lt y a ≡ false) x xs h) in
      omega (arith, s, i, e)

  -- in a sorted list none from a place on is less than the one at the place
  from_place : (xs : List X) (i : ℕ) (e : X) → IsSortedBy lt xs → i < length xs
      → All (λ y. lt y (get_or xs i e) ≡ false) (drop i xs)
  from_place xs i e up l = All-from_get_or (λ y. lt y (get_or xs i e) ≡ false) (drop i xs) e (λ k h.
      let n = length-drop i xs in
      let inside : i + k < length xs = omega (arith, n, h, l) in
      let below : i ≤ i + k = omega arith in
      ap (λ z. lt z (get_or xs i e)) (get_or-drop i xs k e) ∙ sorted_far lt o xs up i (i + k) e below inside)

  -- so at most as many as stand before it are less
  few_less : (xs : List X) (i : ℕ) (e : X) → IsSortedBy lt xs → i < length xs
      → count_by (λ y. lt y (get_or xs i e)) xs ≤ i
  few_less xs i e up l =
      let a = get_or xs i e in
      let f = λ (y : X). cond (lt y a) 1 0 in
      let s = sum_by-append f (take i xs) (drop i xs) in
      let w : count_by (λ y. lt y a) (take i xs ++ drop i xs) ≡ count_by (λ y. lt y a) xs =
      ap (λ ys. count_by (λ y. lt y a) ys) (take-append-drop i xs) in
      let front = count_by-le-length (λ y. lt y a) (take i xs) in
      let n = length-take i xs in
      let back : count_by (λ y. lt y a) (drop i xs) ≡ 0 = none_less a (drop i xs) (from_place xs i e up l) in
      omega (arith, s, w, front, n, back)

  less_too : (d t a : X) → lt d t ≡ false → lt d a ≡ true → lt t a ≡ true
  less_too d t a h g = by (lt t a) refl
    where
      by : (b : Bool) → lt t a ≡ b → lt t a ≡ true
      by true e = e
      by false e = absurd (false≢true (sym (o.chain d t a h e) ∙ g))

  -- what is no less than each of so many elements is no less than the last of the first so many in order
  no_less : (those rest all : List X) (d e : X) → IsPermutation (those ++ rest) all → IsSortedBy lt all
      → 1 ≤ length those → All (λ t. lt d t ≡ false) those
      → lt d (get_or all (length those - 1) e) ≡ false
  no_less those rest all d e p up l below = by (lt d (get_or all (length those - 1) e)) refl
    where
      by : (b : Bool) → lt d (get_or all (length those - 1) e) ≡ b
          → lt d (get_or all (length those - 1) e) ≡ false
      by false h = h
      by true h = absurd (
          let a = get_or all (length those - 1) e in
          let less : All (λ t. lt t a ≡ true) those = All-weaker (λ t. lt d t ≡ false) (λ t. lt t a ≡ true)
          (λ t g. less_too d t a g h) those below in
          let c = all_less a those less in
          let s = sum_by-append (λ y. cond (lt y a) 1 0) those rest in
          let m = sum_by-IsPermutation (λ y. cond (lt y a) 1 0) (those ++ rest) all p in
          let n = length_permutation (those ++ rest) all p in
          let k = length-append those rest in
          let i : length those - 1 < length all = omega (arith, n, k, l) in
          let f = few_less all (length those - 1) e up i in
          omega (arith, c, s, m, f, l))

  -- two sorted lists, where none of the second is less than the last of the first
  joined : (xs ys : List X) → IsSortedBy lt xs → IsSortedBy lt ys
      → ((d : X) → 0 < length xs → All (λ y. lt y (get_or xs (length xs - 1) d) ≡ false) ys)
      → IsSortedBy lt (xs ++ ys)
  joined xs ys up up' seam = λ k d low h. at k d h (cases_lt (k + 1) (length xs)) (cases_lt k (length xs))
    where
      at : (k : ℕ) (d : X) → k + 1 < length (xs ++ ys) → (k + 1 < length xs) ⊎ (length xs ≤ k + 1)
          → (k < length xs) ⊎ (length xs ≤ k)
          → lt (get_or (xs ++ ys) (k + 1) d) (get_or (xs ++ ys) k d) ≡ false
      at k d h (inl a) b =
          let l : k < length xs = omega (arith, a) in
          rw (get_or_append_left xs ys d (k + 1) a, get_or_append_left xs ys d k l)
          (up k d (omega arith) a)
      at k d h (inr a) (inl b) =
          let n = length-append xs ys in
          let some : 0 < length xs = omega (arith, b) in
          let e : k ≡ length xs - 1 = omega (arith, a, b) in
          let z : (k + 1) - length xs ≡ 0 = omega (arith, a, b) in
          let inside : 0 < length ys = omega (arith, n, h, a, b) in
          rw (get_or_append_left xs ys d k b, get_or-append_right xs ys (length xs) (k + 1) d refl a, z, e)
          (seam d some 0 d inside)
      at k d h (inr a) (inr b) =
          let n = length-append xs ys in
          let e : (k + 1) - length xs ≡ (k - length xs) + 1 = omega (arith, b) in
          let inside : (k - length xs) + 1 < length ys = omega (arith, n, h, b) in
          rw (
            get_or-append_right xs ys (length xs) (k + 1) d refl a,
            get_or-append_right xs ys (length xs) k d refl b,
            e,
          )
          (up' (k - length xs) d (omega arith) inside)

  sorted_take : (n : ℕ) (xs : List X) → IsSortedBy lt xs → IsSortedBy lt (take n xs)
  sorted_take n xs up = λ k d low h.
      let m = length-take n xs in
      let l : k + 1 < n = omega (arith, h, m) in
      let l' : k < n = omega (arith, l) in
      let inside : k + 1 < length xs = omega (arith, h, m) in
      rw (get_or-take n xs (k + 1) d l, get_or-take n xs k d l') (up k d low inside)

  -- the rest of a sorted list, and what is no less than its front, may follow the front in order
  behind : (n : ℕ) (held rest more : List X) → IsPermutation (take n held ++ rest) more → IsSortedBy lt held
      → IsSortedBy lt more → n < length held → (d : X) → 0 < length (take n more)
      → All (λ y. lt y (get_or (take n more) (length (take n more) - 1) d) ≡ false)
      (drop n more ++ drop n held)
  behind n held rest more q up up' l d some =
      let front = length-take-le n held (omega (arith, l)) in
      let total = length_permutation (take n held ++ rest) more q in
      let parts = length-append (take n held) rest in
      let own = length-take n more in
      let count : length (take n more) ≡ n = omega (arith, front, total, parts, own) in
      let place : n - 1 < n = omega (arith, count, some) in
      let inside : n - 1 < length more = omega (arith, front, total, parts, place) in
      let last : get_or (take n more) (length (take n more) - 1) d ≡ get_or more (n - 1) d =
      ap (λ k. get_or (take n more) (k - 1) d) count ∙ get_or-take n more (n - 1) d place in
      let those : length (take n held) ≡ n = front in
      rw last (All-append (λ y. lt y (get_or more (n - 1) d) ≡ false) (drop n more) (drop n held)
      (All-from_get_or (λ y. lt y (get_or more (n - 1) d) ≡ false) (drop n more) d (λ k h.
      let m = length-drop n more in
      let far : n + k < length more = omega (arith, m, h) in
      let up_to : n - 1 ≤ n + k = omega arith in
      ap (λ z. lt z (get_or more (n - 1) d)) (get_or-drop n more k d)
      ∙ sorted_far lt o more up' (n - 1) (n + k) d up_to far))
      (All-from_get_or (λ y. lt y (get_or more (n - 1) d) ≡ false) (drop n held) d (λ k h.
      let m = length-drop n held in
      let z = get_or (drop n held) k d in
      let below : All (λ t. lt z t ≡ false) (take n held) =
      All-from_get_or (λ t. lt z t ≡ false) (take n held) d (λ i g.
      let g' : i < n = omega (arith, g, those) in
      let order : i ≤ n + k = omega (arith, g') in
      let far : n + k < length held = omega (arith, m, h) in
      ap₂ lt (get_or-drop n held k d) (get_or-take n held i d g')
      ∙ sorted_far lt o held up i (n + k) d order far) in
      let some' : 1 ≤ length (take n held) = omega (arith, those, place) in
      ap (λ i. lt z (get_or more (i - 1) d)) (sym those)
      ∙ no_less (take n held) rest more z d q up' some' below)))

  -- the first of a sorted list stand for all of it
  pub cut_least : (n : ℕ) (held sorted rest more : List X) → IsPermutation held sorted → IsSortedBy lt sorted
      → IsPermutation (take n sorted ++ rest) more → IsSortedBy lt more
      → (all : List X) × IsPermutation (held ++ rest) all × IsSortedBy lt all × (take n all ≡ take n more)
  cut_least n held sorted rest more p up q up' = at (cases_lt n (length sorted))
    where
      at : (n < length sorted) ⊎ (length sorted ≤ n)
          → (all : List X) × IsPermutation (held ++ rest) all × IsSortedBy lt all × (take n all ≡ take n more)
      at (inr l) = (
        more,
        IsPermutation-trans _ _ _ (IsPermutation-append_left rest held sorted p)
            (subst (λ t. IsPermutation (t ++ rest) more) (take_all n sorted l) q),
        up',
        refl,
      )
      at (inl l) =
          let other = sorted_exists lt o (drop n more ++ drop n sorted) in
          let front = length-take-le n sorted (omega (arith, l)) in
          let total = length_permutation (take n sorted ++ rest) more q in
          let parts = length-append (take n sorted) rest in
          let count : length (take n more) ≡ n = length-take-le n more (omega (arith, front, total, parts)) in
          let within : n ≤ length (take n more) = omega (arith, count) in (
            take n more ++ other.0,
            IsPermutation-trans _ _ _ (moves l) (IsPermutation-append_right (take n more) _ _ other.1),
            joined (take n more) other.0 (sorted_take n more up') other.2
                (λ d some. All-permutation
                (λ y. lt y (get_or (take n more) (length (take n more) - 1) d) ≡ false)
                _ _ other.1 (behind n sorted rest more q up up' l d some)),
            take-append-le n (take n more) other.0 within ∙ take_all n (take n more) (omega (arith, count)),
          )
        where
          moves : n < length sorted
              → IsPermutation (held ++ rest) (take n more ++ (drop n more ++ drop n sorted))
          moves l =
              let a = IsPermutation-append_left rest held sorted p in
              let b : IsPermutation (drop n sorted ++ rest) (rest ++ drop n sorted) =
              IsPermutation-append_comm (drop n sorted) rest in
              let c = IsPermutation-append_right (take n sorted) _ _ b in
              let d = IsPermutation-append_left (drop n sorted) _ _ q in
              let e : take n sorted ++ (drop n sorted ++ rest) ≡ sorted ++ rest =
              sym (append_assoc (take n sorted) (drop n sorted) rest)
              ∙ ap (λ z. z ++ rest) (take-append-drop n sorted) in
              let f : (take n sorted ++ rest) ++ drop n sorted ≡ take n sorted ++ (rest ++ drop n sorted) =
              append_assoc (take n sorted) rest (drop n sorted) in
              let g : more ++ drop n sorted ≡ take n more ++ (drop n more ++ drop n sorted) =
              ap (λ z. z ++ drop n sorted) (sym (take-append-drop n more))
              ∙ append_assoc (take n more) (drop n more) (drop n sorted) in
              IsPermutation-trans _ _ _ a (IsPermutation-trans _ _ _
              (subst (λ z. IsPermutation z (take n sorted ++ (rest ++ drop n sorted))) e c)
              (subst (λ z. IsPermutation (take n sorted ++ (rest ++ drop n sorted)) z) g
              (subst (λ z. IsPermutation z (more ++ drop n sorted)) f d)))
