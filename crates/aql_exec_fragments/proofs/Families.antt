-- Families with another member at a place.
use Rattle.std.proofs.Common.{ℕ, zero, suc, ◌≡◌, inl, inr, refl, sym, ap, subst}
use Rattle.std.proofs.lemmas.Bool.{cases_eq}

module _ {A : Type 0} where
  abbrev pub put : ℕ → A → (ℕ → A) → ℕ → A
  put zero b f zero = b
  put zero b f (suc j) = f (suc j)
  put (suc k) b f zero = f zero
  put (suc k) b f (suc j) = put k b (λ i. f (suc i)) j

  pub put_same : (k : ℕ) (b : A) (f : ℕ → A) → put k b f k ≡ b
  put_same zero b f = refl
  put_same (suc k) b f = put_same k b (λ i. f (suc i))

  pub put_other : (k j : ℕ) (b : A) (f : ℕ → A) → (j ≡ k → ⊥) → put k b f j ≡ f j
  put_other zero zero b f n = absurd (n refl)
  put_other zero (suc j) b f n = refl
  put_other (suc k) zero b f n = refl
  put_other (suc k) (suc j) b f n = put_other k j b (λ i. f (suc i)) (λ e. n (ap suc e))

  -- what holds of the member that was put, and of each other one
  pub put_holds : (P : ℕ → A → Type 0) (k : ℕ) (b : A) (f : ℕ → A) → P k b
      → ((j : ℕ) → (j ≡ k → ⊥) → P j (f j)) → (j : ℕ) → P j (put k b f j)
  put_holds P k b f h o j = elim (cases_eq j k) [
    | inl e ↦ subst (λ z. P z (put k b f z)) (sym e) (subst (P k) (sym (put_same k b f)) h)
    | inr n ↦ subst (P j) (sym (put_other k j b f n)) (o j n)
  ]
