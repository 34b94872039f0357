-- The documents of all shards of a collection together are its documents.
use Rattle.std.proofs.Common.{◌≡◌, ◌∙◌, ℕ, zero, suc, ◌≤◌, ◌<◌, List, [], ◌∷◌, ◌++◌, map, Bool, true, false, true≢false, cond, refl, ap, ap₂, sym, subst, arith, ⊎_elim}
use Rattle.std.specs.Prelude.{filter, flat_map, IsPermutation, ◌==◌, unwrap_or, option_map, slice_get}
use Rattle.std.specs.List.{AllByRecursion}
use Rattle.std.proofs.lemmas.Bool.{eqb-true, eq-eqb, cases_lt}
use Rattle.std.proofs.lemmas.List.{append_assoc}
use Rattle.std.proofs.lemmas.List.Concat.{flat_map-append}
use Rattle.std.proofs.lemmas.List.Sorted.{IsPermutation-refl, IsPermutation-cons, IsPermutation-trans, IsPermutation-sym, IsPermutation-append, IsPermutation-append_left, IsPermutation-append_right, IsPermutation-append_comm, IsPermutation-middle}
use Rattle.aql_value.specs.Datum.{Datum}
use Rattle.aql_value.specs.Contents.{at_name}
use Rattle.aql_value.specs.Shards.{shard_of, documents_on}
use Rattle.aql_meaning.specs.Row.{Row}
use Rattle.aql_meaning.specs.laws.Shuffles.{shuffle, flat_permuted}
use Rattle.aql_plan.specs.declared.facts.Facts.{Facts}
use Rattle.aql_plan.specs.declared.facts.CollFact.{CollFact}
use Rattle.aql_plan.specs.Facts.{numbers_below, shards_in}
use Rattle.aql_plan.specs.WellFormed.{CollectionFits}
use Rattle.aql_shard.specs.laws.Split.{shard_below}

-- ---- things by number

module _ {X : Type 0} (g : ℕ → List X) (x : X) (k : ℕ) where
  abbrev with_x : ℕ → List X
  with_x s = cond (k == s) (x ∷ g s) (g s)

  other_number : (n : ℕ) → (n ≡ k → ⊥) → with_x n ≡ g n
  other_number n f = by (k == n) refl
    where
      by : (b : Bool) → (k == n) ≡ b → cond b (x ∷ g n) (g n) ≡ g n
      by true e = absurd (f (sym (eqb-true k n e)))
      by false e = refl

  not_there : (n : ℕ) → n ≤ k → flat_map with_x (numbers_below n) ≡ flat_map g (numbers_below n)
  not_there zero h = refl
  not_there (suc n) h = flat_map-append with_x (numbers_below n) (n ∷ [])
      ∙ ap₂ (λ ys zs. ys ++ (zs ++ [])) (not_there n (omega (arith, h)))
      (other_number n (λ e. omega (arith, h, e)))
      ∙ sym (flat_map-append g (numbers_below n) (n ∷ []))

  there_once : (n : ℕ) → k < n
      → IsPermutation (x ∷ flat_map g (numbers_below n)) (flat_map with_x (numbers_below n))
  there_once zero h = absurd (omega (arith, h))
  there_once (suc n) h =
      subst (λ (ys : List X). IsPermutation (x ∷ flat_map g (numbers_below (suc n))) ys)
      (sym (flat_map-append with_x (numbers_below n) (n ∷ [])))
      (subst (λ (ys : List X).
      IsPermutation (x ∷ ys) (flat_map with_x (numbers_below n) ++ (with_x n ++ [])))
      (sym (flat_map-append g (numbers_below n) (n ∷ []))) (by (k == n) refl (there_once n)))
    where
      by : (b : Bool) → (k == n) ≡ b
          → (k < n → IsPermutation (x ∷ flat_map g (numbers_below n)) (flat_map with_x (numbers_below n)))
          → IsPermutation (x ∷ (flat_map g (numbers_below n) ++ (g n ++ [])))
          (flat_map with_x (numbers_below n) ++ (cond b (x ∷ g n) (g n) ++ []))
      by true e ih = subst (λ (ys : List X). IsPermutation (x ∷ (flat_map g (numbers_below n) ++ (g n ++ [])))
          (ys ++ (x ∷ (g n ++ []))))
          (sym (not_there n (omega (arith, eqb-true k n e))))
          (IsPermutation-sym _ _ (IsPermutation-middle (flat_map g (numbers_below n)) x (g n ++ [])))
      by false e ih = IsPermutation-append_left (g n ++ []) _ _ (ih (⊎_elim (λ l. l)
          (λ l. absurd (true≢false (sym (eq-eqb k n (omega (arith, l, h))) ∙ e))) (cases_lt k n)))

module _ {X : Type 0} (f : X → ℕ) where
  nothing_there : (n : ℕ) → flat_map (λ s. filter (λ x. f x == s) []) (numbers_below n) ≡ []
  nothing_there zero = refl
  nothing_there (suc n) = flat_map-append (λ s. filter (λ x. f x == s) []) (numbers_below n) (n ∷ [])
      ∙ ap (λ ys. ys ++ []) (nothing_there n)

  -- each has one number
  parted : (n : ℕ) (xs : List X) → AllByRecursion (λ x. f x < n) xs
      → IsPermutation xs (flat_map (λ s. filter (λ x. f x == s) xs) (numbers_below n))
  parted n [] h = subst (λ (ys : List X). IsPermutation [] ys) (sym (nothing_there n)) (IsPermutation-refl [])
  parted n (x ∷ xs) h = IsPermutation-trans _ _ _ (IsPermutation-cons x _ _ (parted n xs h.1))
      (there_once (λ s. filter (λ y. f y == s) xs) x (f x) n h.0)

-- ---- documents by shard

pub shards_are_parts : (shards : ℕ) (keys : List (List ℕ)) (documents : List Datum) → 1 ≤ shards
    → IsPermutation documents
    (flat_map (λ s. documents_on shards keys s documents) (numbers_below shards))
shards_are_parts shards keys documents h =
    parted (λ d. shard_of shards (map (at_name d) keys)) shards documents (each documents)
  where
    each : (ds : List Datum) → AllByRecursion (λ d. shard_of shards (map (at_name d) keys) < shards) ds
    each [] = tt
    each (d ∷ ds) = (shard_below shards (map (at_name d) keys) h, each ds)

-- a collection has a shard, also one that there is not
pub some_shard : (facts : Facts) → AllByRecursion CollectionFits facts.collections → (coll : ℕ)
    → 1 ≤ shards_in facts coll
some_shard facts fits coll = at facts.collections coll fits
  where
    at : (cs : List CollFact) (n : ℕ) → AllByRecursion CollectionFits cs
        → 1 ≤ unwrap_or (option_map (λ (c : CollFact). c.shards) (slice_get cs n)) 1
    at [] n h = omega arith
    at (c ∷ cs) zero h = h.0.0
    at (c ∷ cs) (suc n) h = at cs n h.1

-- ---- rows by shard

swapped : {X : Type 0} (a b c d : List X) → IsPermutation ((a ++ b) ++ (c ++ d)) ((a ++ c) ++ (b ++ d))
swapped {X = X} a b c d =
    subst (λ (xs : List X). IsPermutation xs ((a ++ c) ++ (b ++ d)))
    (sym (append_assoc a b (c ++ d)))
    (subst (λ (xs : List X). IsPermutation (a ++ (b ++ (c ++ d))) xs) (sym (append_assoc a c (b ++ d)))
    (IsPermutation-append_right a _ _
    (subst (λ (xs : List X). IsPermutation xs (c ++ (b ++ d))) (append_assoc b c d)
    (subst (λ (xs : List X). IsPermutation ((b ++ c) ++ d) xs) (append_assoc c b d)
    (IsPermutation-append_left d _ _ (IsPermutation-append_comm b c))))))

abbrev nothing_of : (Y : Type 0) → List Y
nothing_of Y = []

module _ {S Y : Type 0} where
  none_of_none : (ss : List S) → flat_map (λ (s : S). nothing_of Y) ss ≡ []
  none_of_none [] = refl
  none_of_none (s ∷ ss) = none_of_none ss

  zipped : (f g : S → List Y) (ss : List S)
      → IsPermutation (flat_map f ss ++ flat_map g ss) (flat_map (λ s. f s ++ g s) ss)
  zipped f g [] = IsPermutation-refl []
  zipped f g (s ∷ ss) = IsPermutation-trans _ _ _
      (swapped (f s) (flat_map f ss) (g s) (flat_map g ss))
      (IsPermutation-append_right (f s ++ g s) _ _ (zipped f g ss))

module _ {S X Y : Type 0} where
  -- row by row over all shards, or shard by shard over all rows
  either_way : (h : X → S → List Y) (ss : List S) (xs : List X)
      → IsPermutation (flat_map (λ x. flat_map (h x) ss) xs) (flat_map (λ s. flat_map (λ x. h x s) xs) ss)
  either_way h ss [] =
      subst (λ (ys : List Y). IsPermutation [] ys) (sym (none_of_none ss)) (IsPermutation-refl [])
  either_way h ss (x ∷ xs) = IsPermutation-trans _ _ _
      (IsPermutation-append_right (flat_map (h x) ss) _ _ (either_way h ss xs))
      (zipped (h x) (λ s. flat_map (λ y. h y s) xs) ss)

each_permuted : {X Y : Type 0} (f g : X → List Y) → ((x : X) → IsPermutation (f x) (g x))
    → (xs : List X) → IsPermutation (flat_map f xs) (flat_map g xs)
each_permuted f g h [] = IsPermutation-refl []
each_permuted f g h (x ∷ xs) = IsPermutation-append _ _ _ _ (h x) (each_permuted f g h xs)

-- what a row makes of documents goes document by document
module _ (K : Row → List Datum → List Row) (none : (row : Row) → K row [] ≡ [])
    (more : (row : Row) (d : Datum) (ds : List Datum) → K row (d ∷ ds) ≡ K row (d ∷ []) ++ K row ds) where
  one_by_one : (row : Row) (ds : List Datum) → K row ds ≡ flat_map (λ d. K row (d ∷ [])) ds
  one_by_one row [] = none row
  one_by_one row (d ∷ ds) = more row d ds ∙ ap (λ rows. K row (d ∷ []) ++ rows) (one_by_one row ds)

  joined : (row : Row) (xs ys : List Datum) → K row (xs ++ ys) ≡ K row xs ++ K row ys
  joined row xs ys = one_by_one row (xs ++ ys) ∙ flat_map-append (λ d. K row (d ∷ [])) xs ys
      ∙ ap₂ (λ a b. a ++ b) (sym (one_by_one row xs)) (sym (one_by_one row ys))

  of_parts : (row : Row) (f : ℕ → List Datum) (ss : List ℕ)
      → K row (flat_map f ss) ≡ flat_map (λ s. K row (f s)) ss
  of_parts row f [] = none row
  of_parts row f (s ∷ ss) =
      joined row (f s) (flat_map f ss) ∙ ap (λ rows. K row (f s) ++ rows) (of_parts row f ss)

  permuted_documents : (row : Row) (xs ys : List Datum) → IsPermutation xs ys
      → IsPermutation (K row xs) (K row ys)
  permuted_documents row xs ys p =
      subst (λ (a : List Row). IsPermutation a (K row ys)) (sym (one_by_one row xs))
      (subst (λ (a : List Row). IsPermutation (flat_map (λ d. K row (d ∷ [])) xs) a) (sym (one_by_one row ys))
      (flat_permuted (λ d. K row (d ∷ [])) (shuffle xs ys p)))

  pub rows_of_shards : (shards : ℕ) (keys : List (List ℕ)) (documents : List Datum) → 1 ≤ shards
      → (rows : List Row)
      → IsPermutation (flat_map (λ row. K row documents) rows)
      (flat_map (λ s. flat_map (λ row. K row (documents_on shards keys s documents)) rows)
      (numbers_below shards))
  rows_of_shards shards keys documents h rows = IsPermutation-trans _ _ _
      (each_permuted (λ row. K row documents)
      (λ row. flat_map (λ s. K row (documents_on shards keys s documents)) (numbers_below shards))
      (λ row. subst (λ (a : List Row). IsPermutation (K row documents) a)
      (of_parts row (λ s. documents_on shards keys s documents) (numbers_below shards))
      (permuted_documents row documents
      (flat_map (λ s. documents_on shards keys s documents) (numbers_below shards))
      (shards_are_parts shards keys documents h))) rows)
      (either_way (λ row s. K row (documents_on shards keys s documents)) (numbers_below shards) rows)
