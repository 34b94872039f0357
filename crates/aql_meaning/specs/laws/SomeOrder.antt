-- Each list has a sorted permutation, also by the keys of SORT.
use Rattle.std.proofs.Common.{◌≡◌, ℕ, zero, suc, ◌+◌, ◌<◌, List, [], ◌∷◌, length, get_or, drop, Bool, true, false, cond, refl, arith}
use Rattle.std.specs.Ordering.{is_lt}
use Rattle.std.specs.Cmp.{IsTotalOrder, IsStrictWeakOrder}
use Rattle.std.specs.Cmp.Derive.{point_total}
use Rattle.std.specs.List.Sorted.{IsPermutation, IsSortedBy}
use Rattle.std.proofs.lemmas.Cmp.{on_total, then_total, back_total}
use Rattle.std.proofs.lemmas.List.Sorted.{ranks_by, IsPermutation-refl, IsPermutation-cons, IsPermutation-trans, IsPermutation-swap}
use Rattle.aql_value.specs.Datum.{Datum}
use Rattle.aql_value.specs.laws.Strict.{compare_total}
use Rattle.aql_func.specs.Arguments.{argument}
use Rattle.aql_meaning.specs.Clauses.{key_cmp, keys_cmp}

abbrev insert : {X : Type 0} → (X → X → Bool) → X → List X → List X
insert lt x [] = x ∷ []
insert lt x (y ∷ ys) = cond (lt y x) (y ∷ insert lt x ys) (x ∷ y ∷ ys)

abbrev sort : {X : Type 0} → (X → X → Bool) → List X → List X
sort lt [] = []
sort lt (x ∷ xs) = insert lt x (sort lt xs)

module _ {X : Type 0} (lt : X → X → Bool) (o : IsStrictWeakOrder lt) where
  -- no element is less than the one before it
  abbrev pub Ascends : X → List X → Type 0
  Ascends x [] = Unit {0}
  Ascends x (y ∷ ys) = (lt y x ≡ false) × Ascends y ys

  abbrev pub AscendsAll : List X → Type 0
  AscendsAll [] = Unit {0}
  AscendsAll (x ∷ xs) = Ascends x xs

  swap_front : (x y : X) (ys : List X) → IsPermutation (x ∷ y ∷ ys) (y ∷ x ∷ ys)
  swap_front x y ys = IsPermutation-swap (x ∷ y ∷ ys) (y ∷ x ∷ ys) 0 1 (omega arith) (omega arith) refl

  insert_permutes : (x : X) (xs : List X) → IsPermutation (x ∷ xs) (insert lt x xs)
  insert_permutes x [] = IsPermutation-refl (x ∷ [])
  insert_permutes x (y ∷ ys) = by (lt y x) (insert_permutes x ys)
    where
      by : (b : Bool) → IsPermutation (x ∷ ys) (insert lt x ys)
          → IsPermutation (x ∷ y ∷ ys) (cond b (y ∷ insert lt x ys) (x ∷ y ∷ ys))
      by true ih = IsPermutation-trans _ _ _ (swap_front x y ys) (IsPermutation-cons y _ _ ih)
      by false ih = IsPermutation-refl (x ∷ y ∷ ys)

  pub sort_permutes : (xs : List X) → IsPermutation xs (sort lt xs)
  sort_permutes [] = IsPermutation-refl []
  sort_permutes (x ∷ xs) =
      IsPermutation-trans _ _ _ (IsPermutation-cons x _ _ (sort_permutes xs)) (insert_permutes x (sort lt xs))

  insert_after : (z x : X) (xs : List X) → lt x z ≡ false → Ascends z xs → Ascends z (insert lt x xs)
  insert_after z x [] h a = (h, tt)
  insert_after z x (y ∷ ys) h a = by (lt y x) refl (λ e. insert_after y x ys (o.one_way y x e) a.1)
    where
      by : (b : Bool) → lt y x ≡ b → (lt y x ≡ true → Ascends y (insert lt x ys))
          → Ascends z (cond b (y ∷ insert lt x ys) (x ∷ y ∷ ys))
      by true e ih = (a.0, ih e)
      by false e ih = (h, (e, a.1))

  insert_ascends : (x : X) (xs : List X) → AscendsAll xs → AscendsAll (insert lt x xs)
  insert_ascends x [] a = tt
  insert_ascends x (y ∷ ys) a = by (lt y x) refl
    where
      by : (b : Bool) → lt y x ≡ b → AscendsAll (cond b (y ∷ insert lt x ys) (x ∷ y ∷ ys))
      by true e = insert_after y x ys (o.one_way y x e) a
      by false e = (e, a)

  pub sort_ascends : (xs : List X) → AscendsAll (sort lt xs)
  sort_ascends [] = tt
  sort_ascends (x ∷ xs) = insert_ascends x (sort lt xs) (sort_ascends xs)

  ascends_at : (x : X) (xs : List X) → Ascends x xs → (k : ℕ) (d : X) → k + 1 < length (x ∷ xs)
      → lt (get_or (x ∷ xs) (k + 1) d) (get_or (x ∷ xs) k d) ≡ false
  ascends_at x [] a k d h = absurd (omega arith)
  ascends_at x (y ∷ ys) a zero d h = a.0
  ascends_at x (y ∷ ys) a (suc k) d h = grind (arith, ascends_at y ys a.1 k d)

  pub sorted_of_ascends : (xs : List X) → AscendsAll xs → IsSortedBy lt xs
  sorted_of_ascends [] a = λ k d _ h. absurd (omega arith)
  sorted_of_ascends (x ∷ xs) a = λ k d _ h. ascends_at x xs a k d h

  abbrev pub sorted_exists : (xs : List X) → (ys : List X) × IsPermutation xs ys × IsSortedBy lt ys
  sorted_exists xs = (sort lt xs, sort_permutes xs, sorted_of_ascends (sort lt xs) (sort_ascends xs))

-- lists of keys compare by an order
key_total : (descending : Bool) → IsTotalOrder (key_cmp descending)
key_total false = compare_total
key_total true = search (compare_total, back_total)

pub keys_total : (directions : List Bool) → IsTotalOrder (keys_cmp directions)
keys_total [] = point_total
keys_total (descending ∷ directions) =
    then_total (on_total (λ keys. argument keys 0) (key_total descending))
    (on_total (drop 1) (keys_total directions))

abbrev pub keys_below : {X : Type 0} → List Bool → (X → List Datum) → X → X → Bool
keys_below directions keys a b = is_lt (keys_cmp directions (keys a) (keys b))

pub keyed_order : {X : Type 0} (directions : List Bool) (keys : X → List Datum)
    → IsStrictWeakOrder (keys_below directions keys)
keyed_order directions keys = ranks_by (keys_total directions) keys

abbrev pub some_order : {X : Type 0} (directions : List Bool) (keys : X → List Datum) (xs : List X)
    → (ys : List X) × IsPermutation xs ys × IsSortedBy (keys_below directions keys) ys
some_order directions keys xs = sorted_exists (keys_below directions keys) (keyed_order directions keys) xs
