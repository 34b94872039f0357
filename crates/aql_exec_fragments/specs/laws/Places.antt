-- What stands at a place of a list, also after another took a place; and bounds of a list's members in all.
use Rattle.std.proofs.Common.{ℕ, zero, suc, ◌≡◌, ◌+◌, ◌*◌, ◌<◌, ◌≤◌, ◌⊎◌, inl, inr, List, [], ◌∷◌, length, Some, refl, sym, ap, ◌∙◌, mul-add, arith}
use Rattle.std.specs.Prelude.{slice_get, slice_set}
use Rattle.std.proofs.Math.Nat.{le_refl, mul-le-mul_left}
use Rattle.std.proofs.lemmas.Option.{none-some, same_Some}
use Rattle.aql_exec_fragments.specs.Feeds.{total}

no_one : (k : ℕ) → suc k ≡ 0 → ⊥
no_one k e = absurd (omega (arith, e))

no_zero : (k : ℕ) → 0 ≡ suc k → ⊥
no_zero k e = absurd (omega (arith, e))

down : {j k : ℕ} → suc j ≡ suc k → j ≡ k
down e = omega (arith, e)

on : {B C : Type 0} {j k : ℕ} → ((j ≡ k) × B) ⊎ ((j ≡ k → ⊥) × C)
    → ((suc j ≡ suc k) × B) ⊎ ((suc j ≡ suc k → ⊥) × C)
on h = elim h [ inl q ↦ inl (ap suc q.0, q.1) | inr q ↦ inr ((λ e. q.0 (down e)), q.1) ]

both_less : (a b c d : ℕ) → a ≤ b → c ≤ d → a + c ≤ b + d
both_less a b c d l m = omega (arith, l, m)

first_fell : (c r r' t T T' : ℕ) → r' + t ≤ r → T' ≤ T → (c * r' + T') + c * t ≤ c * r + T
first_fell c r r' t T T' l m =
    let a : c * (r' + t) ≤ c * r = mul-le-mul_left c l in
    let b : c * (r' + t) ≡ c * r' + c * t = mul-add c r' t in
    omega (arith, a, b, m)

later_fell : (a a' T T' u : ℕ) → a' ≤ a → T' + u ≤ T → (a' + T') + u ≤ a + T
later_fell a a' T T' u l m = omega (arith, l, m)

same_sum : (a a' r T T' : ℕ) → a' ≡ a → T' ≡ T → a' * r + T' ≡ a * r + T
same_sum a a' r T T' e f = rw (e, f) refl

module _ {A : Type 0} where
  -- one thing stands at a place
  pub same_at : (xs : List A) (k : ℕ) (a b : A) → slice_get xs k ≡ Some a → slice_get xs k ≡ Some b → a ≡ b
  same_at xs k a b e f = same_Some a b (sym e ∙ f)

  pub at_or_none : (xs : List A) (k : ℕ)
      → ((a : A) × (slice_get xs k ≡ Some a)) ⊎ ((a : A) → slice_get xs k ≡ Some a → ⊥)
  at_or_none [] k = inr (λ a e. none-some a e)
  at_or_none (x ∷ xs) zero = inl (x, refl)
  at_or_none (x ∷ xs) (suc k) = at_or_none xs k

  pub some_at : (xs : List A) (k : ℕ) → k < length xs → (a : A) × (slice_get xs k ≡ Some a)
  some_at [] k l = absurd (omega (arith, l))
  some_at (x ∷ xs) zero l = (x, refl)
  some_at (x ∷ xs) (suc k) l = some_at xs k (omega (arith, l))

  pub put_here : (xs : List A) (k : ℕ) (a b : A) → slice_get xs k ≡ Some a
      → slice_get (slice_set xs k b) k ≡ Some b
  put_here [] k a b e = absurd (none-some a e)
  put_here (x ∷ xs) zero a b e = refl
  put_here (x ∷ xs) (suc k) a b e = put_here xs k a b e

  pub others_stay : (xs : List A) (k j : ℕ) (a b : A) → (j ≡ k → ⊥) → slice_get xs j ≡ Some b
      → slice_get (slice_set xs k a) j ≡ Some b
  others_stay [] k j a b n e = e
  others_stay (x ∷ xs) zero zero a b n e = absurd (n refl)
  others_stay (x ∷ xs) zero (suc j) a b n e = e
  others_stay (x ∷ xs) (suc k) zero a b n e = e
  others_stay (x ∷ xs) (suc k) (suc j) a b n e = others_stay xs k j a b (λ f. n (ap suc f)) e

  -- after something took a place, it stands there, and the others stand where they stood
  pub at_set : (xs : List A) (k j : ℕ) (a b : A) → slice_get (slice_set xs k a) j ≡ Some b
      → ((j ≡ k) × (a ≡ b)) ⊎ ((j ≡ k → ⊥) × (slice_get xs j ≡ Some b))
  at_set [] k j a b e = absurd (none-some b e)
  at_set (x ∷ xs) zero zero a b e = inl (refl, same_Some a b e)
  at_set (x ∷ xs) zero (suc j) a b e = inr (no_one j, e)
  at_set (x ∷ xs) (suc k) zero a b e = inr (no_zero k, e)
  at_set (x ∷ xs) (suc k) (suc j) a b e = on (at_set xs k j a b e)

  -- ---- bounds

  pub total_less : (bound bound' : A → ℕ) (cost : ℕ → ℕ) (xs : List A)
      → ((j : ℕ) (b : A) → slice_get xs j ≡ Some b → bound' b ≤ bound b)
      → total bound' cost xs ≤ total bound cost xs
  total_less bound bound' cost [] h = le_refl 0
  total_less bound bound' cost (x ∷ xs) h =
      both_less _ _ _ _ (mul-le-mul_left (cost 0) (h 0 x refl))
      (total_less bound bound' (λ k. cost (suc k)) xs (λ j b e. h (suc j) b e))

  -- one of them fell, and no other rose
  pub total_fell : (bound bound' : A → ℕ) (cost : ℕ → ℕ) (xs : List A) (k : ℕ) (f f' : A) (t : ℕ)
      → slice_get xs k ≡ Some f → bound' f' + t ≤ bound f
      → ((j : ℕ) (b : A) → (j ≡ k → ⊥) → slice_get xs j ≡ Some b → bound' b ≤ bound b)
      → total bound' cost (slice_set xs k f') + cost k * t ≤ total bound cost xs
  total_fell bound bound' cost [] k f f' t e l h = absurd (none-some f e)
  total_fell bound bound' cost (x ∷ xs) zero f f' t e l h =
      first_fell (cost 0) (bound x) (bound' f') t _ _ (rw (same_Some x f e) l)
      (total_less bound bound' (λ k. cost (suc k)) xs (λ j b m. h (suc j) b (no_one j) m))
  total_fell bound bound' cost (x ∷ xs) (suc k) f f' t e l h =
      later_fell _ _ _ _ _ (mul-le-mul_left (cost 0) (h 0 x (no_zero k) refl))
      (total_fell bound bound' (λ k. cost (suc k)) xs k f f' t e l
      (λ j b d m. h (suc j) b (λ e. d (down e)) m))

  pub total_same : (bound : A → ℕ) (cost : ℕ → ℕ) (xs : List A) (k : ℕ) (f f' : A) → slice_get xs k ≡ Some f
      → bound f' ≡ bound f → total bound cost (slice_set xs k f') ≡ total bound cost xs
  total_same bound cost [] k f f' e b = absurd (none-some f e)
  total_same bound cost (x ∷ xs) zero f f' e b = rw (same_Some x f e, b) refl
  total_same bound cost (x ∷ xs) (suc k) f f' e b =
      ap (λ z. cost 0 * bound x + z) (total_same bound (λ k. cost (suc k)) xs k f f' e b)

  pub total_by : (bound : A → ℕ) (cost cost' : ℕ → ℕ) (xs : List A) → ((k : ℕ) → cost' k ≡ cost k)
      → total bound cost' xs ≡ total bound cost xs
  total_by bound cost cost' [] e = refl
  total_by bound cost cost' (x ∷ xs) e =
      same_sum _ _ (bound x) _ _ (e 0)
      (total_by bound (λ k. cost (suc k)) (λ k. cost' (suc k)) xs (λ k. e (suc k)))
