-- What so many rests count in all, where one of them changes.
use Rattle.std.proofs.Common.{ℕ, zero, suc, ◌≡◌, ◌+◌, ◌<◌, ◌⊎◌, inl, inr, List, [], refl, sym, ap, arith}
use Rattle.std.proofs.lemmas.Bool.{cases_eq}
use Rattle.aql_meaning.specs.Row.{Row}
use Rattle.aql_exec.specs.Rests.{Counter, Counts, Exact, Rest, Prefixed}
use Rattle.aql_exec.specs.Operators.{counted}

module _ (ins ins' : ℕ → Rest) (c : Counter) where
  same_below : (n : ℕ) → ((j : ℕ) → j < n → ins' j ≡ ins j) → counted n ins' c ≡ counted n ins c
  same_below zero h = refl
  same_below (suc n) h =
      let below = same_below n (λ j l. h j (omega (arith, l))) in
      let here : (ins' n).counts c ≡ (ins n).counts c = ap (λ (r : Rest). r.counts c) (h n (omega arith)) in
      omega (arith, below, here)

  pub counted_changed : (n k : ℕ) → k < n → ((j : ℕ) → (j ≡ k → ⊥) → ins' j ≡ ins j)
      → counted n ins' c + (ins k).counts c ≡ counted n ins c + (ins' k).counts c
  counted_changed zero k l o = absurd (omega (arith, l))
  counted_changed (suc n) k l o = by (cases_eq k n) (λ m. counted_changed n k m o)
    where
      by : (k ≡ n) ⊎ (k ≡ n → ⊥)
          → (k < n → counted n ins' c + (ins k).counts c ≡ counted n ins c + (ins' k).counts c)
          → counted (suc n) ins' c + (ins k).counts c ≡ counted (suc n) ins c + (ins' k).counts c
      by (inl e) below =
          let same = same_below n (λ j m. o j (λ f. omega (arith, m, e, f))) in
          let mine : (ins k).counts c ≡ (ins n).counts c = ap (λ z. (ins z).counts c) e in
          let theirs : (ins' k).counts c ≡ (ins' n).counts c = ap (λ z. (ins' z).counts c) e in
          omega (arith, same, mine, theirs)
      by (inr d) below =
          let i = below (omega (arith, l, d)) in
          let here : (ins' n).counts c ≡ (ins n).counts c =
          ap (λ (r : Rest). r.counts c) (o n (λ f. d (sym f))) in
          omega (arith, i, here)

-- a rest that counts what all inputs do, where one of them counts more on the way to rows in front of it
pub prefixed_counted : {e : Exact} (n k : ℕ) (rows : List Row) (d : Counts) (after before : ℕ → Rest)
    (r : Rest) → k < n → Prefixed e rows d (after k) (before k) → ((j : ℕ) → (j ≡ k → ⊥) → after j ≡ before j)
    → ((c : Counter) → r.counts c ≡ counted n after c)
    → Prefixed e [] d r (record { rows = r.rows; counts = counted n before })
prefixed_counted n k rows d after before r l p o h = record {
  rows = refl;
  counts = λ c. (let a = p.counts c in let b = h c in let s = counted_changed before after c n k l o in
      omega (arith, a, b, s));
  exact = λ c x. (let a = p.exact c x in let b = h c in let s = counted_changed before after c n k l o in
      omega (arith, a, b, s));
}

-- where each counts nothing, all count nothing
pub none_counted : (n : ℕ) (ins : ℕ → Rest) (c : Counter) → ((k : ℕ) → k < n → (ins k).counts c ≡ 0)
    → counted n ins c ≡ 0
none_counted zero ins c h = refl
none_counted (suc n) ins c h =
    let below = none_counted n ins c (λ k l. h k (omega (arith, l))) in
    let here = h n (omega arith) in
    omega (arith, below, here)
