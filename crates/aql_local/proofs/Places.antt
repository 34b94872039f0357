-- What stands at places of a list, and the first that has a property.
use Rattle.std.proofs.Common.{◌≡◌, ◌∙◌, ℕ, zero, suc, ◌<◌, ◌≤◌, ◌+◌, ◌-◌, List, [], ◌∷◌, ◌++◌, length, take, drop, filter, Bool, true, false, cond, Option, None, Some, refl, ap, sym, find, arith, length-drop}
use Rattle.std.specs.Prelude.{flat_map, slice_get}
use Rattle.std.specs.Option.{option_or}
use Rattle.std.proofs.lemmas.Grind.{flat_map-append}
use Rattle.std.proofs.lemmas.List.{append-nil, length-take}
use Rattle.std.proofs.lemmas.List.Folds.{find-append}
use Rattle.aql_value.specs.Datum.{Datum}
use Rattle.aql_value.specs.Database.{Database, documents_of}
use Rattle.aql_index.specs.declared.bounds.Span.{Span}
use Rattle.aql_index.specs.Spans.{spanned, IsSpan}
use Rattle.aql_local.specs.inner.Lookups.{all_documents}

-- ---- one place more

module _ {X : Type 0} where
  one_taken : (xs : List X) (k : ℕ) (x : X) → slice_get xs k ≡ Some x → take (suc k) xs ≡ take k xs ++ x ∷ []
  one_taken [] k x h = absurd (cc)
  one_taken (y ∷ ys) zero x h = let e : y ≡ x = cc in ap (λ z. z ∷ []) e
  one_taken (y ∷ ys) (suc k) x h = ap (λ l. y ∷ l) (one_taken ys k x h)

  dropped : (xs : List X) (from k : ℕ) → slice_get (drop from xs) k ≡ slice_get xs (from + k)
  dropped xs zero k = ap (slice_get xs) (omega arith)
  dropped [] (suc from) k = refl
  dropped (x ∷ xs) (suc from) k =
      let e : suc (from + k) ≡ suc from + k = omega arith in dropped xs from k ∙ ap (slice_get (x ∷ xs)) e

  pub one_place_more : {Y : Type 0} (f : X → List Y) (xs : List X) (from place : ℕ) (x : X) → from ≤ place
      → slice_get xs place ≡ Some x
      → flat_map f (take (place + 1 - from) (drop from xs))
      ≡ flat_map f (take (place - from) (drop from xs)) ++ f x
  one_place_more f xs from place x low h =
      let next : place + 1 - from ≡ suc (place - from) = omega arith in
      let at : from + (place - from) ≡ place = omega arith in
      let some = dropped xs from (place - from) ∙ ap (slice_get xs) at ∙ h in
      ap (λ n. flat_map f (take n (drop from xs))) next
      ∙ ap (flat_map f) (one_taken (drop from xs) (place - from) x some)
      ∙ flat_map-append f (take (place - from) (drop from xs)) (x ∷ [])
      ∙ ap (λ l. flat_map f (take (place - from) (drop from xs)) ++ l) (append-nil (f x))

pub spanned_length : {X : Type 0} (xs : List X) (span : Span) → IsSpan (length xs) span
    → length (spanned xs span) ≡ span.to - span.from
spanned_length xs span within =
    let kept = length-take (span.to - span.from) (drop span.from xs) in
    let left = length-drop span.from xs in
    let low = within.0 in let high = within.1 in omega (arith, kept, left, low, high)

-- ---- the first that has a property

module _ {X : Type 0} (p : X → Bool) where
  first_kept : (xs : List X) → find p xs ≡ slice_get (filter p xs) 0
  first_kept [] = refl
  first_kept (x ∷ xs) = by (p x) (first_kept xs)
    where
      by : (b : Bool) → find p xs ≡ slice_get (filter p xs) 0
          → cond b (Some x) (find p xs) ≡ slice_get (cond b (x ∷ filter p xs) (filter p xs)) 0
      by true h = refl
      by false h = h

  first_taken : (xs : List X) (n : ℕ) → 0 < n → slice_get (take n xs) 0 ≡ slice_get xs 0
  first_taken xs zero h = absurd (omega arith)
  first_taken [] (suc n) h = refl
  first_taken (x ∷ xs) (suc n) h = refl

  -- where a span is of exactly those that have it
  module _ (order xs : List X) (span : Span) (h : spanned order span ≡ filter p xs) where
    pub first_in_span : span.from < span.to → find p xs ≡ slice_get order span.from
    first_in_span low =
        let at : span.from + 0 ≡ span.from = omega arith in
        first_kept xs ∙ ap (λ l. slice_get l 0) (sym h)
        ∙ first_taken (drop span.from order) (span.to - span.from) (omega (arith, low))
        ∙ dropped order span.from 0 ∙ ap (slice_get order) at

    pub none_in_span : span.to ≤ span.from → find p xs ≡ None
    none_in_span high =
        let nothing : span.to - span.from ≡ 0 = omega (arith, high) in
        first_kept xs ∙ ap (λ l. slice_get l 0) (sym h)
        ∙ ap (λ n. slice_get (take n (drop span.from order)) 0) nothing

-- ---- in the documents of all collections

of_one_more : (db : Database) (n : ℕ) → n < length db
    → all_documents (drop n db) ≡ documents_of db n ++ all_documents (drop (suc n) db)
of_one_more [] n below = absurd (omega arith)
of_one_more (c ∷ db) zero below = refl
of_one_more (c ∷ db) (suc n) below = of_one_more db n (omega (arith, below))

module _ (p : Datum → Bool) (db : Database) (n : ℕ) (r : Option Datum) (below : n < length db)
    (h : find p (all_documents (drop n db)) ≡ r) where
  in_both : option_or (find p (documents_of db n)) (find p (all_documents (drop (suc n) db))) ≡ r
  in_both = sym (find-append p (documents_of db n) (all_documents (drop (suc n) db)))
      ∙ sym (ap (find p) (of_one_more db n below)) ∙ h

  pub found_there : (d : Datum) → find p (documents_of db n) ≡ Some d → r ≡ Some d
  found_there d f = sym in_both ∙ ap (λ o. option_or o (find p (all_documents (drop (suc n) db)))) f

  pub not_there : find p (documents_of db n) ≡ None → find p (all_documents (drop (n + 1) db)) ≡ r
  not_there f =
      let next : n + 1 ≡ suc n = omega arith in
      ap (λ k. find p (all_documents (drop k db))) next
      ∙ sym (ap (λ o. option_or o (find p (all_documents (drop (suc n) db)))) f) ∙ in_both
