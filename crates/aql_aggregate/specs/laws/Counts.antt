-- The counts of parts, added up, are the count of all members.
use Rattle.std.proofs.Common.{◌≡◌, ℕ, ◌+◌, ◌<◌, ◌≤◌, ◌^◌, List, [], ◌∷◌, ◌++◌, map, length, true, false, cond, ◌||◌, ◌⊎◌, inl, inr, refl, sym, ap, ◌∙◌, length-append, arith}
use Rattle.std.specs.Prelude.{ℤ, pos, ◌+ℤ◌, fold}
use Rattle.std.specs.List.{list_any}
use Rattle.std.proofs.lemmas.Int.{ints}
use Rattle.std.proofs.lemmas.Bool.{cases_lt}
use Rattle.aql_value.specs.Datum.{Datum, null, number}
use Rattle.aql_value.specs.Convert.{to_number, number_or_null}
use Rattle.aql_func.specs.Aggregates.{is_null, count_of, exact_sum, join_counts}
use Rattle.aql_aggregate.specs.Theorems.{all_of}

-- the sum of a number of each of the list
abbrev pub total : {X : Type 0} → (X → ℤ) → List X → ℤ
total f xs = fold (λ z x. z +ℤ f x) (pos 0) xs

total_from : {X : Type 0} (f : X → ℤ) (z : ℤ) (xs : List X) → fold (λ z x. z +ℤ f x) z xs ≡ z +ℤ total f xs
total_from f z [] = omega (arith, ints)
total_from f z (x ∷ xs) =
    let a = total_from f (z +ℤ f x) xs in
    let b = total_from f (pos 0 +ℤ f x) xs in
    omega (arith, ints, a, b)

pub total_cons : {X : Type 0} (f : X → ℤ) (x : X) (xs : List X) → total f (x ∷ xs) ≡ f x +ℤ total f xs
total_cons f x xs = let a = total_from f (pos 0 +ℤ f x) xs in omega (arith, ints, a)

pub total_append : {X : Type 0} (f : X → ℤ) (xs ys : List X) → total f (xs ++ ys) ≡ total f xs +ℤ total f ys
total_append f [] ys = omega (arith, ints)
total_append f (x ∷ xs) ys =
    let a = total_cons f x (xs ++ ys) in
    let b = total_cons f x xs in
    let c = total_append f xs ys in
    omega (arith, ints, a, b, c)

pub small : (n : ℕ) → n < 2 ^ 63 → number_or_null (pos n) ≡ number (pos n)
small n h = grind (arith, ints)

pub large : (n : ℕ) → 2 ^ 63 ≤ n → number_or_null (pos n) ≡ null
large n h = grind (arith, ints)

-- no count is lost, and they add up to this many; or one is lost, and this is out of range
abbrev pub AddUp : List Datum → ℕ → Type 0
AddUp counts n = ((list_any is_null counts ≡ false) × (exact_sum counts ≡ pos n))
    ⊎ ((list_any is_null counts ≡ true) × (2 ^ 63 ≤ n))

one_more : (ts : List Datum) (counts : List Datum) (n : ℕ) → AddUp counts n
    → AddUp (count_of ts ∷ counts) (length ts + n)
one_more ts counts n h = by (cases_lt (length ts) (2 ^ 63)) h
  where
    by : (length ts < 2 ^ 63) ⊎ (2 ^ 63 ≤ length ts) → AddUp counts n
        → AddUp (count_of ts ∷ counts) (length ts + n)
    by (inr l) h = inr (
      ap (λ t. is_null t || list_any is_null counts) (large (length ts) l),
      omega
          (arith, l),
    )
    by (inl l) (inr h) = inr (
      ap (λ t. is_null t || list_any is_null counts) (small (length ts) l)
          ∙ h.0,
      omega (arith, h.1),
    )
    by (inl l) (inl h) = inl (
      ap (λ t. is_null t || list_any is_null counts) (small (length ts) l) ∙ h.0,
      total_cons to_number (count_of ts) counts
          ∙ ap (λ t. to_number t +ℤ exact_sum counts) (small (length ts) l)
          ∙ ap (λ z. pos (length ts) +ℤ z) h.1,
    )

pub add_up : (parts : List (List Datum)) → AddUp (map count_of parts) (length (all_of parts))
add_up [] = inl (refl, refl)
add_up (ts ∷ parts) = rw (length-append ts (all_of parts)) (one_more ts (map count_of parts) (length
    (all_of parts)) (add_up parts))

pub counts_joined : (parts : List (List Datum)) → join_counts (map count_of parts)
    ≡ count_of (all_of parts)
counts_joined parts = by (add_up parts)
  where
    by : AddUp (map count_of parts) (length (all_of parts)) → join_counts (map count_of parts)
        ≡ count_of (all_of parts)
    by (inl h) = ap (λ b. cond b null (number_or_null (exact_sum (map count_of parts)))) h.0
        ∙ ap number_or_null h.1
    by (inr h) = ap (λ b. cond b null (number_or_null (exact_sum (map count_of parts)))) h.0
        ∙ sym (large (length (all_of parts)) h.1)
