-- A list has one order in which ties keep their places.
use Rattle.std.proofs.Common.{◌≡◌, ◌∙◌, ◌+◌, suc, List, [], ◌∷◌, map, get_or, Bool, true, false, true≢false, cond, not, ◌&&◌, refl, sym, ap, ap₂, subst, arith}
use Rattle.std.specs.Prelude.{filter}
use Rattle.std.specs.Cmp.{IsStrictWeakOrder}
use Rattle.std.specs.List.{AllByRecursion}
use Rattle.std.specs.List.Sorted.{ties, IsSortedBy, IsStableBy}
use Rattle.std.proofs.lemmas.List.Sorted.{sorted_far}
use Rattle.std.proofs.lemmas.List.Elements.{recursion_from_All}
use Rattle.aql_meaning.specs.laws.SomeOrder.{Ascends, AscendsAll, sorted_of_ascends}
use Rattle.aql_index.specs.IndexOrder.{insert, sort}
use Rattle.aql_index.specs.laws.Filters.{all_filter}

module _ {X : Type 0} (lt : X → X → Bool) (o : IsStrictWeakOrder lt) where
  is_false : (b : Bool) → (b ≡ true → b ≡ false) → b ≡ false
  is_false true f = f refl
  is_false false f = refl

  not_self : (x : X) → lt x x ≡ false
  not_self x = is_false (lt x x) (o.one_way x x)

  both_not : (a b : Bool) → a ≡ false → b ≡ false → not a && not b ≡ true
  both_not a b e f = ap₂ (λ x y. not x && not y) e f

  ties_self : (x : X) → ties lt x x ≡ true
  ties_self x = both_not _ _ (not_self x) (not_self x)

  -- ---- two such orders of a list are one

  pub none_less : (x : X) (xs : List X) → IsSortedBy lt (x ∷ xs)
      → AllByRecursion (λ w. lt w x ≡ false) (x ∷ xs)
  none_less x xs up = recursion_from_All (λ w. lt w x ≡ false) (x ∷ xs)
      (λ k d l. sorted_far lt o (x ∷ xs) up 0 k d (omega arith) l)

  pub tail_sorted : (x : X) (xs : List X) → IsSortedBy lt (x ∷ xs) → IsSortedBy lt xs
  tail_sorted x xs up = λ k d low h.
      let next : suc k + 1 ≡ suc (k + 1) = omega arith in
      subst (λ n. lt (get_or (x ∷ xs) n d) (get_or xs k d) ≡ false) next
      (up (suc k) d (omega arith) (omega (arith, h)))

  kept_first : (x : X) (xs : List X) → filter (ties lt x) (x ∷ xs) ≡ x ∷ filter (ties lt x) xs
  kept_first x xs = ap (λ b. cond b (x ∷ filter (ties lt x) xs) (filter (ties lt x) xs)) (ties_self x)

  -- the first of one is not less than the first of the other
  not_less : (y z : X) (ys zs : List X) → IsSortedBy lt (y ∷ ys)
      → filter (ties lt z) (y ∷ ys) ≡ filter (ties lt z) (z ∷ zs) → lt z y ≡ false
  not_less y z ys zs up e =
      (subst (AllByRecursion (λ w. lt w y ≡ false)) (e ∙ kept_first z zs)
      (all_filter (λ w. lt w y ≡ false) (ties lt z) (y ∷ ys) (none_less y ys up))).0

  rest_same : (b c : Bool) (y z : X) (as' bs : List X) → b ≡ c
      → cond b (y ∷ as') as' ≡ cond c (z ∷ bs) bs → as' ≡ bs
  rest_same true true y z as' bs e h = cc
  rest_same false false y z as' bs e h = h
  rest_same true false y z as' bs e h = absurd (true≢false e)
  rest_same false true y z as' bs e h = absurd (true≢false (sym e))

  heads : (y z : X) (ys zs : List X) → y ∷ ys ≡ z ∷ zs → y ≡ z
  heads y z ys zs h = cc

  pub one_order : (ys zs : List X) → IsSortedBy lt ys → IsSortedBy lt zs
      → ((x : X) → filter (ties lt x) ys ≡ filter (ties lt x) zs) → ys ≡ zs
  one_order [] [] u v h = refl
  one_order [] (z ∷ zs) u v h = absurd (let e = h z ∙ kept_first z zs in cc)
  one_order (y ∷ ys) [] u v h = absurd (let e = sym (h y) ∙ kept_first y ys in cc)
  one_order (y ∷ ys) (z ∷ zs) u v h =
      let zy = not_less y z ys zs u (h z) in
      let yz = not_less z y zs ys v (sym (h y)) in
      let tied : ties lt y z ≡ true = both_not _ _ yz zy in
      let first = sym (kept_first y ys) ∙ h y
      ∙ ap (λ b. cond b (z ∷ filter (ties lt y) zs) (filter (ties lt y) zs)) tied in
      let same = heads y z _ _ first in
      ap₂ (λ x xs. x ∷ xs) same
      (one_order ys zs (tail_sorted y ys u) (tail_sorted z zs v)
      (λ x. rest_same (ties lt x y) (ties lt x z) y z _ _ (ap (ties lt x) same) (h x)))

  -- ---- `sort` is such an order

  nots : (a b : Bool) → not a && not b ≡ true → (a ≡ false) × (b ≡ false)
  nots true b h = absurd (true≢false (sym h))
  nots false true h = absurd (true≢false (sym h))
  nots false false h = (refl, refl)

  apart : (b c : Bool) (x y z : X) → ties lt x y ≡ b → ties lt x z ≡ c → lt z y ≡ true
      → (as' : List X) → cond c (z ∷ cond b (y ∷ as') as') (cond b (y ∷ as') as')
      ≡ cond b (y ∷ cond c (z ∷ as') as') (cond c (z ∷ as') as')
  apart true true x y z e f l as' =
      let xy = (nots (lt x y) (lt y x) e).0 in
      let zx = (nots (lt x z) (lt z x) f).1 in
      absurd (true≢false (sym l ∙ o.chain z x y zx xy))
  apart true false x y z e f l as' = refl
  apart false c x y z e f l as' = refl

  insert_stable : (x y : X) (ys : List X) → filter (ties lt x) (insert lt y ys) ≡ filter (ties lt x) (y ∷ ys)
  insert_stable x y [] = refl
  insert_stable x y (z ∷ zs) = by (lt z y) refl (insert_stable x y zs)
    where
      by : (b : Bool) → lt z y ≡ b → filter (ties lt x) (insert lt y zs) ≡ filter (ties lt x) (y ∷ zs)
          → filter (ties lt x) (cond b (z ∷ insert lt y zs) (y ∷ z ∷ zs)) ≡ filter (ties lt x) (y ∷ z ∷ zs)
      by true l h = ap (λ ws. cond (ties lt x z) (z ∷ ws) ws) h
          ∙ apart (ties lt x y) (ties lt x z) x y z refl refl l (filter (ties lt x) zs)
      by false l h = refl

  pub sort_stable : (xs : List X) (x : X) → filter (ties lt x) (sort lt xs) ≡ filter (ties lt x) xs
  sort_stable [] x = refl
  sort_stable (y ∷ ys) x = insert_stable x y (sort lt ys)
      ∙ ap (λ ws. cond (ties lt x y) (y ∷ ws) ws) (sort_stable ys x)

  insert_after : (z x : X) (xs : List X) → lt x z ≡ false → Ascends lt o z xs
      → Ascends lt o z (insert lt x xs)
  insert_after z x [] h a = (h, tt)
  insert_after z x (y ∷ ys) h a = by (lt y x) refl (λ e. insert_after y x ys (o.one_way y x e) a.1)
    where
      by : (b : Bool) → lt y x ≡ b → (lt y x ≡ true → Ascends lt o y (insert lt x ys))
          → Ascends lt o z (cond b (y ∷ insert lt x ys) (x ∷ y ∷ ys))
      by true e ih = (a.0, ih e)
      by false e ih = (h, (e, a.1))

  insert_ascends : (x : X) (xs : List X) → AscendsAll lt o xs → AscendsAll lt o (insert lt x xs)
  insert_ascends x [] a = tt
  insert_ascends x (y ∷ ys) a = by (lt y x) refl
    where
      by : (b : Bool) → lt y x ≡ b → AscendsAll lt o (cond b (y ∷ insert lt x ys) (x ∷ y ∷ ys))
      by true e = insert_after y x ys (o.one_way y x e) a
      by false e = (e, a)

  sort_ascends : (xs : List X) → AscendsAll lt o (sort lt xs)
  sort_ascends [] = tt
  sort_ascends (x ∷ xs) = insert_ascends x (sort lt xs) (sort_ascends xs)

  pub sort_sorted : (xs : List X) → IsSortedBy lt (sort lt xs)
  sort_sorted xs = sorted_of_ascends lt o (sort lt xs) (sort_ascends xs)

  -- what a stable sort gives
  pub is_sort : (xs ys : List X) → IsSortedBy lt ys → IsStableBy lt xs ys → ys ≡ sort lt xs
  is_sort xs ys up stable = one_order ys (sort lt xs) up
      (sort_sorted xs) (λ x. stable x ∙ sym (sort_stable xs x))

-- ---- it commutes with a function that keeps the order

module _ {X Y : Type 0} (f : X → Y) (lt : Y → Y → Bool) where
  abbrev before : X → X → Bool
  before a b = lt (f a) (f b)

  insert-map : (x : X) (xs : List X) → map f (insert before x xs) ≡ insert lt (f x) (map f xs)
  insert-map x [] = refl
  insert-map x (y ∷ ys) = by (before y x) (insert-map x ys)
    where
      by : (b : Bool) → map f (insert before x ys) ≡ insert lt (f x) (map f ys)
          → map f (cond b (y ∷ insert before x ys) (x ∷ y ∷ ys))
          ≡ cond b (f y ∷ insert lt (f x) (map f ys)) (f x ∷ f y ∷ map f ys)
      by true h = ap (λ zs. f y ∷ zs) h
      by false h = refl

  pub sort-map : (xs : List X) → map f (sort before xs) ≡ sort lt (map f xs)
  sort-map [] = refl
  sort-map (x ∷ xs) = insert-map x (sort before xs) ∙ ap (insert lt (f x)) (sort-map xs)
