-- What a filter leaves of a list.
use Rattle.std.proofs.Common.{◌≡◌, List, [], ◌∷◌, map, Bool, true, false, cond, ◌&&◌, refl, ap, ap₂}
use Rattle.std.specs.Prelude.{filter}
use Rattle.std.specs.List.{AllByRecursion}

-- what all of a list are, all that are left are
pub all_filter : {X : Type 0} (P : X → Type 0) (p : X → Bool) (xs : List X) → AllByRecursion P xs
    → AllByRecursion P (filter p xs)
all_filter P p [] h = tt
all_filter P p (x ∷ xs) h = by (p x) (all_filter P p xs h.1)
  where
    by : (b : Bool) → AllByRecursion P (filter p xs)
        → AllByRecursion P (cond b (x ∷ filter p xs) (filter p xs))
    by true k = (h.0, k)
    by false k = k

-- tests that agree on a list
pub filter_on : {X : Type 0} (p q : X → Bool) (xs : List X) → AllByRecursion (λ x. p x ≡ q x) xs
    → filter p xs ≡ filter q xs
filter_on p q [] h = refl
filter_on p q (x ∷ xs) h = ap₂ (λ b ys. cond b (x ∷ ys) ys) h.0 (filter_on p q xs h.1)

-- a test of what a function gives
pub filter_map : {X Y : Type 0} (f : X → Y) (test : Y → Bool) (xs : List X)
    → filter test (map f xs) ≡ map f (filter (λ x. test (f x)) xs)
filter_map f test [] = refl
filter_map f test (x ∷ xs) = by (test (f x)) (filter_map f test xs)
  where
    by : (b : Bool) → filter test (map f xs) ≡ map f (filter (λ y. test (f y)) xs)
        → cond b (f x ∷ filter test (map f xs)) (filter test (map f xs))
        ≡ map f (cond b (x ∷ filter (λ y. test (f y)) xs) (filter (λ y. test (f y)) xs))
    by true h = ap (λ ys. f x ∷ ys) h
    by false h = h

-- one test after another
pub filter_twice : {X : Type 0} (p q : X → Bool) (xs : List X)
    → filter q (filter p xs) ≡ filter (λ x. p x && q x) xs
filter_twice p q [] = refl
filter_twice p q (x ∷ xs) = by (p x) (filter_twice p q xs)
  where
    by : (b : Bool) → filter q (filter p xs) ≡ filter (λ y. p y && q y) xs
        → filter q (cond b (x ∷ filter p xs) (filter p xs))
        ≡ cond (b && q x) (x ∷ filter (λ y. p y && q y) xs) (filter (λ y. p y && q y) xs)
    by true e = ap (λ ys. cond (q x) (x ∷ ys) ys) e
    by false e = e
