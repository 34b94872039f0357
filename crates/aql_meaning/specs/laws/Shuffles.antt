-- A permutation as steps by which a proof can go through it, and what it does to lists that belong together.
use Rattle.std.proofs.Common.{ℕ, zero, suc, ◌<◌, List, [], ◌∷◌, ◌++◌, length, get_or, set, refl, subst, arith}
use Rattle.std.specs.Prelude.{flat_map, zip}
use Rattle.std.specs.List.{swap, AllZip}
use Rattle.std.specs.List.Sorted.{IsPermutation}
use Rattle.std.proofs.lemmas.List.{append_assoc}
use Rattle.std.proofs.lemmas.List.Sorted.{IsPermutation-refl, IsPermutation-cons, IsPermutation-trans, IsPermutation-swap, IsPermutation-keeps, IsPermutation-append, IsPermutation-append_comm}

pub data Shuffled {X : Type 0} : List X → List X → Type 0 where
  none : Shuffled [] []
  skip : (x : X) {xs ys : List X} → Shuffled xs ys → Shuffled (x ∷ xs) (x ∷ ys)
  flip : (x y : X) (xs : List X) → Shuffled (x ∷ y ∷ xs) (y ∷ x ∷ xs)
  chain : {xs ys zs : List X} → Shuffled xs ys → Shuffled ys zs → Shuffled xs zs

module _ {X : Type 0} where
  pub shuffle_same : (xs : List X) → Shuffled xs xs
  shuffle_same [] = none
  shuffle_same (x ∷ xs) = skip x (shuffle_same xs)

  front : (x : X) (l : List X) (j : ℕ) (d : X) → j < length l → Shuffled (x ∷ l) (get_or l j d ∷ set l j x)
  front x [] j d h = absurd (omega arith)
  front x (y ∷ l) zero d h = flip x y l
  front x (y ∷ l) (suc j) d h =
      chain (flip x y l) (chain (skip y (front x l j d (omega arith))) (flip y (get_or l j d) (set l j x)))

  exchanged : (l : List X) (i j : ℕ) (d e : X) → i < length l → j < length l
      → Shuffled l (set (set l i (get_or l j d)) j (get_or l i e))
  exchanged [] i j d e h k = absurd (omega arith)
  exchanged (x ∷ l) zero zero d e h k = shuffle_same (x ∷ l)
  exchanged (x ∷ l) zero (suc j) d e h k = front x l j d (omega arith)
  exchanged (x ∷ l) (suc i) zero d e h k =
      subst (λ (y : X). Shuffled (x ∷ l) (y ∷ set l i x)) refl (front x l i e (omega arith))
  exchanged (x ∷ l) (suc i) (suc j) d e h k = skip x (exchanged l i j d e (omega arith) (omega arith))

  swapped : (l : List X) (i j : ℕ) → i < length l → j < length l → Shuffled l (swap l i j)
  swapped [] i j h k = none
  swapped (x ∷ l) i j h k = exchanged (x ∷ l) i j x x h k

  pub shuffle : (xs ys : List X) → IsPermutation xs ys → Shuffled xs ys
  shuffle xs ys p = IsPermutation-keeps xs (Shuffled xs) (shuffle_same xs)
      (λ l i j h k s. chain s (swapped l i j h k)) ys p

  pub permutes : {xs ys : List X} → Shuffled xs ys → IsPermutation xs ys
  permutes none = IsPermutation-refl []
  permutes (skip x s) = IsPermutation-cons x _ _ (permutes s)
  permutes (flip x y xs) = IsPermutation-swap (x ∷ y ∷ xs) (y ∷ x ∷ xs) 0 1 (omega arith) (omega arith) refl
  permutes (chain s t) = IsPermutation-trans _ _ _ (permutes s) (permutes t)

-- what is related place by place is so still when both lists are shuffled alike
pub through : {A B : Type 0} (R : A → B → Type 0) {xs zs : List A} → Shuffled xs zs → (ys : List B)
    → AllZip R xs ys
    → (ws : List B) × Shuffled ys ws × Shuffled (zip xs ys) (zip zs ws) × AllZip R zs ws
through R none [] h = ([], none, none, tt)
through R none (y ∷ ys) h = absurd h
through R (skip x s) [] h = absurd h
through R (skip x s) (y ∷ ys) h =
    let t = through R s ys h.1 in
    (y ∷ t.0, skip y t.1, skip (x, y) t.2, (h.0, t.3))
through R (flip x y xs) [] h = absurd h
through R (flip x y xs) (a ∷ []) h = absurd h.1
through R (flip x y xs) (a ∷ b ∷ ys) h =
    (b ∷ a ∷ ys, flip a b ys, flip (x, a) (y, b) (zip xs ys), (h.1.0, (h.0, h.1.1)))
through R (chain s t) ys h =
    let a = through R s ys h in
    let b = through R t a.0 a.3 in
    (b.0, chain a.1 b.1, chain a.2 b.2, b.3)

pub alike_permutation : {A B : Type 0} (R : A → B → Type 0) (xs zs : List A) (ys : List B)
    → IsPermutation xs zs
    → AllZip R xs ys → (ws : List B) × IsPermutation ys ws × AllZip R zs ws
alike_permutation R xs zs ys p h = let t = through R (shuffle xs zs p) ys h in (t.0, permutes t.1, t.3)

pub fronts_swapped : {X : Type 0} (us vs ws : List X) → IsPermutation (us ++ (vs ++ ws)) (vs ++ (us ++ ws))
fronts_swapped us vs ws =
    subst (λ xs. IsPermutation xs (vs ++ (us ++ ws))) (append_assoc us vs ws)
    (subst (λ xs. IsPermutation ((us ++ vs) ++ ws) xs) (append_assoc vs us ws)
    (IsPermutation-append (us ++ vs) (vs ++ us) ws ws (IsPermutation-append_comm us vs)
    (IsPermutation-refl ws)))

pub flat_permuted : {A B : Type 0} (f : A → List B) {xs ys : List A} → Shuffled xs ys
    → IsPermutation (flat_map f xs) (flat_map f ys)
flat_permuted f none = IsPermutation-refl []
flat_permuted f (skip x s) =
    IsPermutation-append (f x) (f x) _ _ (IsPermutation-refl (f x)) (flat_permuted f s)
flat_permuted f (flip x y xs) = fronts_swapped (f x) (f y) (flat_map f xs)
flat_permuted f (chain s t) = IsPermutation-trans _ _ _ (flat_permuted f s) (flat_permuted f t)
