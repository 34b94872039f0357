-- A merge of lists has its like in related lists.
use Rattle.std.proofs.Common.{◌≡◌, ◌∙◌, ℕ, zero, suc, List, [], ◌∷◌, Bool, refl, sym, subst}
use Rattle.std.specs.Prelude.{Some, slice_get, slice_set}
use Rattle.std.specs.List.{AllZip, AllByRecursion}
use Rattle.aql_meaning.specs.Row.{Row}
use Rattle.aql_meaning.specs.Merges.{NotBefore, Merged}

module _ (R : Row → Row → Type 0) (below before : Row → Row → Bool)
    (same : (r s q t : Row) → R r s → R q t → below r q ≡ before s t) where
  empty_related : (lists others : List (List Row)) → AllZip (AllZip R) lists others
      → AllByRecursion (λ list. list ≡ []) lists → AllByRecursion (λ list. list ≡ []) others
  empty_related [] [] h e = tt
  empty_related [] (m ∷ others) h e = absurd h
  empty_related (l ∷ lists) [] h e = absurd h
  empty_related (l ∷ lists) (m ∷ others) h e = (by l m h.0 e.0, empty_related lists others h.1 e.1)
    where
      by : (l m : List Row) → AllZip R l m → l ≡ [] → m ≡ []
      by [] [] k d = refl
      by [] (s ∷ m) k d = absurd k
      by (r ∷ l) m k d = cc

  -- the list at a place begins with a related row
  taken_related : (lists others : List (List Row)) → AllZip (AllZip R) lists others
      → (place : ℕ) (row : Row) (rest : List Row) → slice_get lists place ≡ Some (row ∷ rest)
      → (other : Row) × (more : List Row) × (slice_get others place ≡ Some (other ∷ more))
      × R row other × AllZip R rest more
  taken_related [] others h place row rest e = cc
  taken_related (l ∷ lists) [] h place row rest e = absurd h
  taken_related (l ∷ lists) (m ∷ others) h zero row rest e = by l m h.0 e
    where
      by : (l m : List Row) → AllZip R l m → Some l ≡ Some (row ∷ rest)
          → (other : Row) × (more : List Row) × (Some m ≡ Some (other ∷ more))
          × R row other × AllZip R rest more
      by [] m k d = cc
      by (r ∷ l) [] k d = absurd k
      by (r ∷ l) (s ∷ m) k d =
          let first : r ≡ row = cc in
          let others : l ≡ rest = cc in (
            s,
            m,
            refl,
            subst (λ (q : Row). R q s) first k.0,
            subst
                (λ (q : List Row). AllZip R q m) others k.1,
          )
  taken_related (l ∷ lists) (m ∷ others) h (suc place) row rest e =
      taken_related lists others h.1 place row rest e

  set_related : (lists others : List (List Row)) → AllZip (AllZip R) lists others
      → (place : ℕ) (rest more : List Row) → AllZip R rest more
      → AllZip (AllZip R) (slice_set lists place rest) (slice_set others place more)
  set_related [] [] h place rest more k = tt
  set_related [] (m ∷ others) h place rest more k = absurd h
  set_related (l ∷ lists) [] h place rest more k = absurd h
  set_related (l ∷ lists) (m ∷ others) h zero rest more k = (k, h.1)
  set_related (l ∷ lists) (m ∷ others) h (suc place) rest more k =
      (h.0, set_related lists others h.1 place rest more k)

  least_related : (row other : Row) → R row other → (lists others : List (List Row))
      → AllZip (AllZip R) lists others
      → AllByRecursion (NotBefore below row) lists → AllByRecursion (NotBefore before other) others
  least_related row other a [] [] h n = tt
  least_related row other a [] (m ∷ others) h n = absurd h
  least_related row other a (l ∷ lists) [] h n = absurd h
  least_related row other a (l ∷ lists) (m ∷ others) h n =
      (by l m h.0 n.0, least_related row other a lists others h.1 n.1)
    where
      by : (l m : List Row) → AllZip R l m → NotBefore below row l → NotBefore before other m
      by [] [] k d = tt
      by [] (s ∷ m) k d = absurd k
      by (r ∷ l) [] k d = absurd k
      by (r ∷ l) (s ∷ m) k d = sym (same r s row other k.0 a) ∙ d

  pub merged_alike : (out : List Row) (lists others : List (List Row)) → AllZip (AllZip R) lists others
      → Merged below lists out → (other : List Row) × Merged before others other × AllZip R out other
  merged_alike [] lists others h m = ([], empty_related lists others h m, tt)
  merged_alike (row ∷ out) lists others h m =
      let t = taken_related lists others h m.0 row m.1 m.2 in
      let l = least_related row t.0 t.3 lists others h m.3 in
      let more = merged_alike out (slice_set lists m.0 m.1) (slice_set others m.0 t.1)
      (set_related lists others h m.0 m.1 t.1 t.4) m.4 in
      (t.0 ∷ more.0, (m.0, t.1, t.2, l, more.1), (t.3, more.2))
