-- The permutations of a list: each has the elements of the list, and the first one is the list itself.
use Rattle.std.proofs.Common.{◌≡◌, ℕ, zero, suc, List, [], ◌∷◌, ◌++◌, map, length, refl, ap, arith}
use Rattle.std.specs.Prelude.{flat_map}
use Rattle.std.specs.List.{AllByRecursion}
use Rattle.std.proofs.lemmas.List.Sorted.{length_permutation}
use Rattle.aql_value.specs.laws.Alls.{all_append, all_more, all_mapped}
use Rattle.aql_meaning.specs.laws.Shuffles.{Shuffled, none, skip, flip, chain, shuffle_same, permutes}
use Rattle.aql_rules_order.specs.InterchangeAdjacentEnumerations.{each_with_others, orders_of, permutations}

-- ---- what holds of each element

all_flat : {X Y : Type 0} (P : Y → Type 0) (f : X → List Y) (xs : List X)
    → AllByRecursion (λ x. AllByRecursion P (f x)) xs → AllByRecursion P (flat_map f xs)
all_flat P f [] h = tt
all_flat P f (x ∷ xs) h = all_append P (f x) (flat_map f xs) h.0 (all_flat P f xs h.1)

-- ---- each order has the elements of the list

pub others_shuffled : {X : Type 0} (xs : List X)
    → AllByRecursion (λ k. Shuffled xs (k.0 ∷ k.1)) (each_with_others xs)
others_shuffled [] = tt
others_shuffled {X} (x ∷ xs) = (
  shuffle_same (x ∷ xs),
  all_mapped (λ k. Shuffled (x ∷ xs) (k.0 ∷ k.1)) (λ (k : X × List X). (k.0, x ∷ k.1)) (each_with_others xs)
      (all_more (λ k. Shuffled xs (k.0 ∷ k.1)) (λ k. Shuffled (x ∷ xs) (k.0 ∷ x ∷ k.1))
      (λ k h. chain (skip x h) (flip x k.0 k.1)) (each_with_others xs) (others_shuffled xs)),
)

pub same_length : {X : Type 0} (xs ys : List X) → Shuffled xs ys → length ys ≡ length xs
same_length xs ys s = length_permutation xs ys (permutes s)

orders_shuffled : {X : Type 0} (n : ℕ) (xs : List X) → length xs ≡ n
    → AllByRecursion (λ order. Shuffled xs order) (orders_of n xs)
orders_shuffled zero [] e = (none, tt)
orders_shuffled zero (x ∷ xs) e = absurd (omega (arith, e))
orders_shuffled {X} (suc n) xs e =
    all_flat (λ order. Shuffled xs order) (λ (k : X × List X). map (λ order. k.0 ∷ order) (orders_of n k.1))
    (each_with_others xs)
    (all_more (λ k. Shuffled xs (k.0 ∷ k.1))
    (λ k. AllByRecursion (λ order. Shuffled xs order) (map (λ order. k.0 ∷ order) (orders_of n k.1)))
    (λ k h. all_mapped (λ order. Shuffled xs order) (λ order. k.0 ∷ order) (orders_of n k.1)
    (all_more (λ order. Shuffled k.1 order) (λ order. Shuffled xs (k.0 ∷ order))
    (λ order g. chain h (skip k.0 g)) (orders_of n k.1)
    (orders_shuffled n k.1 (omega (arith, e, same_length xs (k.0 ∷ k.1) h)))))
    (each_with_others xs) (others_shuffled xs))

pub permutations_shuffled : {X : Type 0} (xs : List X)
    → AllByRecursion (λ order. Shuffled xs order) (permutations xs)
permutations_shuffled xs = orders_shuffled (length xs) xs refl

-- ---- the first order is the list itself

pub itself_first : {X : Type 0} (xs : List X) → (rest : List (List X)) × (permutations xs ≡ xs ∷ rest)
itself_first [] = ([], refl)
itself_first {X} (x ∷ xs) =
    let k = itself_first xs in (
      map (λ order. x ∷ order) k.0
          ++ flat_map (λ (k : X × List X). map (λ order. k.0 ∷ order) (orders_of (length xs) k.1))
          (map (λ (k : X × List X). (k.0, x ∷ k.1)) (each_with_others xs)),
      ap (λ (orders : List (List X)). map (λ order. x ∷ order) orders
          ++ flat_map (λ (k : X × List X). map (λ order. k.0 ∷ order) (orders_of (length xs) k.1))
          (map (λ (k : X × List X). (k.0, x ∷ k.1)) (each_with_others xs))) k.1,
    )
