-- A sorted permutation of rows has its like in related rows with the same keys.
use Rattle.std.proofs.Common.{◌≡◌, ◌∙◌, ℕ, zero, suc, ◌+◌, ◌<◌, List, [], ◌∷◌, map, length, get_or, Bool, refl, ap, ap₂, sym, subst, arith}
use Rattle.std.specs.Prelude.{zip, IsSortedBy}
use Rattle.std.specs.Ordering.{is_lt}
use Rattle.std.specs.List.{AllZip}
use Rattle.aql_value.specs.Datum.{Datum}
use Rattle.aql_meaning.specs.Row.{Row}
use Rattle.aql_meaning.specs.Clauses.{KeyedRow, keys_cmp, comes_before, Sorts}
use Rattle.aql_meaning.specs.laws.Shuffles.{alike_permutation}
use Rattle.aql_plan_laws.specs.laws.Lists.{map_related}

module _ (R : Row → Row → Type 0) where
  -- the same keys, and related rows
  abbrev pub RelatedKeyed : KeyedRow → KeyedRow → Type 0
  RelatedKeyed x y = (x.0 ≡ y.0) × R x.1 y.1

  zip_related : (keys : List (List Datum)) (rows others : List Row) → AllZip R rows others
      → AllZip RelatedKeyed (zip keys rows) (zip keys others)
  zip_related [] rows others h = tt
  zip_related (k ∷ keys) [] [] h = tt
  zip_related (k ∷ keys) [] (s ∷ others) h = absurd h
  zip_related (k ∷ keys) (r ∷ rows) [] h = absurd h
  zip_related (k ∷ keys) (r ∷ rows) (s ∷ others) h = ((refl, h.0), zip_related keys rows others h.1)

  length_related : (xs ys : List KeyedRow) → AllZip RelatedKeyed xs ys → length xs ≡ length ys
  length_related [] [] h = refl
  length_related [] (y ∷ ys) h = absurd h
  length_related (x ∷ xs) [] h = absurd h
  length_related (x ∷ xs) (y ∷ ys) h = ap suc (length_related xs ys h.1)

  key_at : (xs ys : List KeyedRow) → AllZip RelatedKeyed xs ys → (k : ℕ) (d : KeyedRow) → k < length xs
      → (get_or ys k d).0 ≡ (get_or xs k d).0
  key_at [] ys h k d l = absurd (omega arith)
  key_at (x ∷ xs) [] h k d l = absurd h
  key_at (x ∷ xs) (y ∷ ys) h zero d l = sym h.0.0
  key_at (x ∷ xs) (y ∷ ys) h (suc k) d l = key_at xs ys h.1 k d (omega arith)

  sorted_related : (directions : List Bool) (xs ys : List KeyedRow) → AllZip RelatedKeyed xs ys
      → IsSortedBy (comes_before directions) xs → IsSortedBy (comes_before directions) ys
  sorted_related directions xs ys h s = λ k d low l.
      let n : length xs ≡ length ys = length_related xs ys h in
      ap₂ (λ a b. is_lt (keys_cmp directions a b)) (key_at xs ys h (k + 1) d (omega arith))
      (key_at xs ys h k d (omega arith)) ∙ s k d low (omega arith)

  pub sorted_alike : (directions : List Bool) (keys : List (List Datum)) (rows others out : List Row)
      → AllZip R rows others → Sorts directions keys rows out
      → (other : List Row) × Sorts directions keys others other × AllZip R out other
  sorted_alike directions keys rows others out h s =
      let t = alike_permutation RelatedKeyed (zip keys rows) s.0 (zip keys others) s.1
      (zip_related keys rows others h) in (
        map (λ (keyed : KeyedRow). keyed.1) t.0,
        (t.0, t.1, sorted_related directions s.0 t.0 t.2 s.2, refl),
        subst (λ (rows : List Row). AllZip R rows (map (λ (keyed : KeyedRow). keyed.1) t.0)) (sym s.3)
            (map_related RelatedKeyed R (λ keyed. keyed.1) (λ keyed. keyed.1) (λ x y k. k.1) s.0 t.0 t.2),
      )
