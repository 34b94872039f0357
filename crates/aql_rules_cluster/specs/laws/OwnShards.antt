-- A row that belongs to one shard finds nothing on another one, where a reader keeps for it only documents
-- that have its values in their shard keys.
use Rattle.std.proofs.Common.{◌≡◌, ◌∙◌, ℕ, List, [], ◌∷◌, map, Bool, true, false, true≢false, cond, refl, ap, sym}
use Rattle.std.specs.Prelude.{◌&&◌, ◌==◌, filter, IsPermutation}
use Rattle.std.specs.List.{AllByRecursion}
use Rattle.std.proofs.lemmas.List.Elements.{All-from_recursion, recursion_from_All}
use Rattle.std.proofs.lemmas.List.Sorted.{All-permutation}
use Rattle.aql_value.specs.Datum.{Datum}
use Rattle.aql_value.specs.Contents.{at_name}
use Rattle.aql_value.specs.Shards.{shard_of, documents_on}

-- ---- lists of which none passes a test

module _ {X : Type 0} (test : X → Bool) where
  abbrev pub NonePasses : List X → Type 0
  NonePasses xs = AllByRecursion (λ x. test x ≡ false) xs

  pub none_kept : (xs : List X) → NonePasses xs → filter test xs ≡ []
  none_kept [] h = refl
  none_kept (x ∷ xs) h =
      ap (λ b. cond b (x ∷ filter test xs) (filter test xs)) h.0 ∙ none_kept xs h.1

  pub none_permuted : (xs ys : List X) → IsPermutation xs ys → NonePasses xs → NonePasses ys
  none_permuted xs ys p h =
      recursion_from_All _ _ (All-permutation (λ x. test x ≡ false) xs ys p (All-from_recursion _ _ h))

  -- after another test, where none passes both
  pub none_after : (first : X → Bool) (xs : List X)
      → AllByRecursion (λ x. (first x && test x) ≡ false) xs → NonePasses (filter first xs)
  none_after first [] h = tt
  none_after first (x ∷ xs) h = by (first x) h.0 (none_after first xs h.1)
    where
      by : (b : Bool) → (b && test x) ≡ false → NonePasses (filter first xs)
          → NonePasses (cond b (x ∷ filter first xs) (filter first xs))
      by true e k = (e, k)
      by false e k = k

-- ---- a row of another shard

module _ (shards : ℕ) (keys : List (List ℕ)) (shard : ℕ) (values : List Datum) (keeps : Datum → Bool)
    (sends : (d : Datum) → keeps d ≡ true → values ≡ map (at_name d) keys)
    (elsewhere : (shard_of shards values == shard) ≡ false) where
  pub nothing_found : (ds : List Datum) → NonePasses keeps (documents_on shards keys shard ds)
  nothing_found [] = tt
  nothing_found (d ∷ ds) =
      by (shard_of shards (map (at_name d) keys) == shard) refl (nothing_found ds)
    where
      passes : (b : Bool) → keeps d ≡ b → (shard_of shards (map (at_name d) keys) == shard) ≡ true
          → keeps d ≡ false
      passes true e f = absurd (true≢false (sym f
          ∙ ap (λ vs. shard_of shards vs == shard) (sym (sends d e)) ∙ elsewhere))
      passes false e f = e

      by : (b : Bool) → (shard_of shards (map (at_name d) keys) == shard) ≡ b
          → NonePasses keeps (documents_on shards keys shard ds)
          → NonePasses keeps
          (cond b (d ∷ documents_on shards keys shard ds) (documents_on shards keys shard ds))
      by true e k = (passes (keeps d) refl e, k)
      by false e k = k
