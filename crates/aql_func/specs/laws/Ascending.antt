-- `sort_values` forgets the order, and keeps what ascends.
use Rattle.std.proofs.Common.{◌≡◌, ℕ, suc, ◌+◌, ◌<◌, List, [], ◌∷◌, length, get_or, Bool, true, false, cond, refl, sym, ap, subst, ◌∙◌, add-one, arith}
use Rattle.std.specs.declared.cmp.Ordering.{Ordering}
use Rattle.std.specs.declared.cmp.Ordering.TheVariants.{Less, Equal, Greater}
use Rattle.std.specs.Ordering.{is_lt, on, ordering_reverse}
use Rattle.std.specs.List.Sorted.{IsPermutation, IsSorted}
use Rattle.std.specs.Cmp.{IsStrictWeakOrder}
use Rattle.std.proofs.lemmas.List.Sorted.{ranks_by, IsPermutation-map}
use Rattle.aql_value.specs.declared.values.Value.{Value}
use Rattle.aql_value.specs.Datum.{Datum}
use Rattle.aql_value.specs.View.{datum_of, datums_in}
use Rattle.aql_value.specs.Compare.{compare}
use Rattle.aql_value.specs.Contents.{is_below}
use Rattle.aql_value.specs.laws.Strict.{compare_total}
use Rattle.aql_value.specs.laws.Keyed.{same_from_equal}
use Rattle.aql_func.specs.Lists.{among, sort_values}
use Rattle.aql_func.specs.laws.Shuffles.{Shuffled, none, skip, flip, chain, shuffled}

-- of two values, one is below the other, or they are one
one_of : (s t : Datum) → is_below s t ≡ false → is_below t s ≡ false → s ≡ t
one_of s t p q = by (compare s t) refl
  where
    by : (o : Ordering) → compare s t ≡ o → s ≡ t
    by Less e = absurd (let f = ap is_lt e in cc)
    by Equal e = same_from_equal s t e
    by Greater e = absurd (let f = ap is_lt (compare_total.antisymm t s ∙ ap ordering_reverse e) in cc)

pub below_order : IsStrictWeakOrder is_below
below_order = ranks_by compare_total (λ t. t)

below_lifts : (s t u : Datum) → is_below u t ≡ true → is_below u s ≡ false → is_below s t ≡ true
below_lifts s t u h k = by (is_below s t) refl
  where
    by : (b : Bool) → is_below s t ≡ b → is_below s t ≡ true
    by true e = e
    by false e = absurd (let f = below_order.chain u s t k e in cc)

-- two values put among others, in either order
both : (s t : Datum) (us : List Datum) (b : Bool) → is_below t s ≡ b → (c : Bool) → is_below s t ≡ c
    → cond b (t ∷ s ∷ us) (s ∷ t ∷ us) ≡ cond c (s ∷ t ∷ us) (t ∷ s ∷ us)
both s t us true p true q = absurd (let e = below_order.one_way t s p in cc)
both s t us true p false q = refl
both s t us false p true q = refl
both s t us false p false q = let e = one_of s t q p in rw e refl

swapped : (s t : Datum) (us : List Datum) → among s (among t us) ≡ among t (among s us)
swapped s t [] = both s t [] _ refl _ refl
swapped s t (u ∷ us) = by (is_below u t) refl (is_below u s) refl (swapped s t us)
  where
    by : (b : Bool) → is_below u t ≡ b → (c : Bool) → is_below u s ≡ c
        → among s (among t us) ≡ among t (among s us)
        → among s (cond b (u ∷ among t us) (t ∷ u ∷ us)) ≡ among t (cond c (u ∷ among s us) (s ∷ u ∷ us))
    by true p true q ih = rw p (rw q (ap (λ l. u ∷ l) ih))
    by true p false q ih = rw q (rw (below_lifts s t u p q) (rw p refl))
    by false p true q ih = rw p (rw (below_lifts t s u q p) (rw q refl))
    by false p false q ih = rw p (rw q (both s t (u ∷ us) _ refl _ refl))

pub same_ascending : {xs ys : List Datum} → Shuffled xs ys → sort_values xs ≡ sort_values ys
same_ascending none = refl
same_ascending (skip x s) = ap (among x) (same_ascending s)
same_ascending (flip x y xs) = swapped x y (sort_values xs)
same_ascending (chain s t) = same_ascending s ∙ same_ascending t

abbrev pub Rises : List Value → Type 0
Rises vs = (k : ℕ) (d : Value) → k + 1 < length vs
    → is_below (datum_of (get_or vs (suc k) d)) (datum_of (get_or vs k d)) ≡ false

pub kept : (vs : List Value) → Rises vs → sort_values (datums_in vs) ≡ datums_in vs
kept [] h = refl
kept (v ∷ []) h = refl
kept (v ∷ w ∷ ws) h = ap (among (datum_of v)) (kept (w ∷ ws) (λ k d l. h (suc k) d (omega arith)))
    ∙ ap (λ b. cond b (datum_of w ∷ among (datum_of v) (datums_in ws)) (datums_in (v ∷ w ∷ ws)))
    (h 0 v (omega arith))

pub sorted_is : (vs ws : List Value) → IsPermutation vs ws → IsSorted (on datum_of compare) ws
    → datums_in ws ≡ sort_values (datums_in vs)
sorted_is vs ws p s = sym (same_ascending (shuffled _ _ (IsPermutation-map datum_of vs ws p))
    ∙ kept ws (λ k d l. subst (λ n. is_below (datum_of (get_or ws n d)) (datum_of (get_or ws k d)) ≡ false)
    (add-one k) (s k d (omega arith) l)))
