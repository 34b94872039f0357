-- The numbers of a LIMIT: what it asks for a call, what it tells of, and what it asks next.
use Rattle.std.proofs.Common.{◌≡◌, ℕ, zero, suc, ◌+◌, ◌-◌, ◌<◌, ◌≤◌, ◌⊎◌, inl, inr, Bool, true, false, min, refl, sym, ap, ◌∙◌, arith}
use Rattle.aql_block.specs.declared.calls.Call.{Call}
use Rattle.aql_block.specs.declared.calls.Progress.{Progress}
use Rattle.aql_block.specs.declared.calls.Progress.TheVariants.{HasMore, Done}
use Rattle.aql_exec.specs.Steps.{Follows, IsCall}
use Rattle.aql_exec.specs.Limiting.{skips_of, most_of, ask_of}

-- how many rows a call skips, of those that are left
pub record Skips (offset left skips : ℕ) : Type 0 where
  pub within : skips ≤ offset
  pub fewer : skips + 1 ≤ left
  pub exact : (skips ≡ offset) ⊎ (skips + 1 ≡ left)

exact_skips : (offset left : ℕ) → 1 ≤ left → (offset ≤ left - 1) ⊎ (left - 1 ≤ offset)
    → (min offset (left - 1) ≡ offset) ⊎ (min offset (left - 1) + 1 ≡ left)
exact_skips offset left h (inl i) = inl (omega (arith, i))
exact_skips offset left h (inr i) = inr (omega (arith, h, i))

pub skips_is : (call : Call) (left : ℕ) → 1 ≤ left → Skips call.offset left (skips_of call left)
skips_is call left h = record {
  within = omega (arith, h);
  fewer = omega (arith, h);
  exact = exact_skips call.offset left h (grind arith);
}

-- what is asked is a call
pub ask_is_call : (call : Call) (skip left : ℕ) → 1 ≤ left → IsCall call → IsCall (ask_of call skip left)
ask_is_call call skip left h i =
    let s = (skips_is call left h).fewer in
    let a = i.some in let b = i.soft in let d = i.batch in
    record { some = omega (arith, h, s, a, b); soft = omega arith; batch = omega (arith, d) }

-- what came and what is reported of, for a call and what was asked for it; `past` rows were skipped beyond those
-- that are left out
pub record Came (offset soft hard skip left k n asked_soft asked_hard left' : ℕ) : Type 0 where
  pub skips : ℕ
  pub within : skips ≤ offset
  pub fewer : skips + 1 ≤ left
  pub exact : (skips ≡ offset) ⊎ (skips + 1 ≡ left)
  pub reach : k ≤ skip + skips
  pub rows : n ≤ asked_soft
  pub first : 1 ≤ n → k ≡ skip + skips
  pub soft_is : asked_soft ≡ min soft (min hard (left - skips))
  pub hard_is : asked_hard ≡ min hard (left - skips)
  pub rest : left' + ((k - skip) + n) ≡ left

-- no more rows came than are left
pub enough : (offset soft hard skip left k n skips asked_soft : ℕ) → skips + 1 ≤ left → k ≤ skip + skips
    → n ≤ asked_soft → (1 ≤ n → k ≡ skip + skips) → asked_soft ≡ min soft (min hard (left - skips))
    → (k - skip) + n ≤ left
enough offset soft hard skip left k zero skips asked a b d e f = omega (arith, a, b)
enough offset soft hard skip left k (suc n) skips asked a b d e f =
    (let g = e (omega arith) in omega (arith, a, g, d, f))

module _ (offset soft hard skip left k n asked_soft asked_hard left' : ℕ)
    (c : Came offset soft hard skip left k n asked_soft asked_hard left') where
  -- the step is within the call
  pub whole_in : offset ≤ k - skip → k - skip ≡ offset
  whole_in h = (let a = c.reach in let b = c.within in omega (arith, a, b, h))

  pub past_in : k - skip ≤ offset
  past_in = (let a = c.reach in let b = c.within in omega (arith, a, b))

  pub rows_in : n ≤ soft
  rows_in = (let a = c.rows in let b = c.soft_is in omega (arith, a, b))

  -- the call skips a row that came: it was the last
  last_row : k - skip < offset → 1 ≤ n → (k - skip ≡ c.skips) × (c.skips + 1 ≡ left) × (n ≡ 1)
  last_row h m =
      let a = c.first m in
      let p : k - skip ≡ c.skips = omega (arith, a) in
      let q : c.skips + 1 ≡ left = at_end c.exact p in
      let r = c.rows in let s = c.soft_is in
      (p, q, omega (arith, q, r, s, m))
    where
      at_end : (c.skips ≡ offset) ⊎ (c.skips + 1 ≡ left) → k - skip ≡ c.skips → c.skips + 1 ≡ left
      at_end (inl e) p = absurd (omega (arith, h, e, p))
      at_end (inr e) p = e

  pub over_in : k - skip < offset → (k - skip) + n ≤ offset
  over_in h = by_rows n refl
    where
      by_rows : (m : ℕ) → m ≡ n → (k - skip) + n ≤ offset
      by_rows zero e = omega (arith, h, e)
      by_rows (suc m) e = (let l = (last_row h (omega (arith, e))).2 in omega (arith, h, l))

  -- where more may be given and rows came, none of them was skipped by the call
  pub not_over : 1 ≤ left' → 1 ≤ n → offset ≤ k - skip
  not_over h m = decide (grind arith)
    where
      decide : (offset ≤ k - skip) ⊎ (k - skip < offset) → offset ≤ k - skip
      decide (inl e) = e
      decide (inr e) =
          (let l = last_row e m in let a = l.0 in let b = l.1 in let d = l.2 in let r = c.rest in
          absurd (omega (arith, h, a, b, d, r)))

  -- where all came that was asked and more may be given, all came that was wanted
  pub all_came : 1 ≤ hard → 1 ≤ left' → n ≡ asked_hard → (n ≡ hard) × (offset ≤ k - skip)
  all_came w h e =
      let f = c.fewer in let i = c.hard_is in
      let m : 1 ≤ n = omega (arith, w, e, i, f) in
      let o = not_over h m in
      let a = c.first m in let r = c.rest in
      (omega (arith, e, i, a, r, h, f), o)

  -- the skips that are asked next are those that are left
  next_skips : (o : ℕ) → 1 ≤ left' → o ≡ offset - (k - skip)
      → ((skip - k) + min o (left' - 1) ≡ (skip + c.skips) - k)
      × ((left' - min o (left' - 1)) + n ≡ left - c.skips)
  next_skips o h e = by_rows n refl
    where
      none_came : n ≡ 0 → (c.skips ≡ offset) ⊎ (c.skips + 1 ≡ left)
          → ((skip - k) + min o (left' - 1) ≡ (skip + c.skips) - k)
          × ((left' - min o (left' - 1)) + n ≡ left - c.skips)
      none_came z (inl x) =
          (let a = c.reach in let b = c.fewer in let r = c.rest in
          (omega (arith, a, b, r, e, x, z), omega (arith, a, b, r, e, x, z)))
      none_came z (inr x) =
          (let a = c.reach in let b = c.within in let r = c.rest in
          (omega (arith, a, b, r, e, x, z), omega (arith, a, b, r, e, x, z)))

      by_rows : (m : ℕ) → m ≡ n → ((skip - k) + min o (left' - 1) ≡ (skip + c.skips) - k)
          × ((left' - min o (left' - 1)) + n ≡ left - c.skips)
      by_rows zero z = none_came (sym z) c.exact
      by_rows (suc m) z =
          (let i : 1 ≤ n = omega (arith, z) in
          let a = c.first i in
          let w = not_over h i in
          let b = c.within in
          let r = c.rest in
          let none : o ≡ 0 = omega (arith, e, w) in
          (omega (arith, none, a), omega (arith, none, a, r)))

  next_most : (o wanted : ℕ) → 1 ≤ left' → o ≡ offset - (k - skip) → left ≤ 18446744073709551615
      → (wanted + n ≤ hard) ⊎ ((hard ≡ 18446744073709551615) × (wanted ≡ 18446744073709551615))
      → min wanted (left' - min o (left' - 1)) + n ≤ asked_hard
  next_most o wanted h e m (inl x) =
      let s = (next_skips o h e).1 in let i = c.hard_is in omega (arith, s, i, x)
  next_most o wanted h e m (inr x) =
      let s = (next_skips o h e).1 in let i = c.hard_is in let y = x.0 in omega (arith, s, i, y, m)

  -- each call that follows the answer is asked for by one that follows what was asked
  pub next_follows : (d call ask : Call) (came reported_skips reported_rows : ℕ) (progress reported : Progress)
      → call.offset ≡ offset → call.hard ≡ hard → ask.hard ≡ asked_hard → left ≤ 18446744073709551615
      → ask.offset + k ≡ (skip + c.skips) + came
      → (1 ≤ left' → (reported_skips ≡ k - skip) × (reported_rows ≡ n) × (reported ≡ progress))
      → (left' ≡ 0 → reported ≡ Done)
      → Follows call reported_skips reported_rows reported d → Follows ask came n progress (ask_of d (skip - k) left')
  next_follows d call ask came reported_skips reported_rows progress reported eo eh ea m reach more over f =
      let t = more still in
      let t0 = t.0 in
      let o : d.offset ≡ offset - (k - skip) = f.offset ∙ ap (λ z. z - reported_skips) eo
      ∙ ap (λ z. offset - z) t0 in
      let s = (next_skips d.offset still o).0 in
      let a = c.reach in
      record {
        not_done = λ e. f.not_done (t.2 ∙ e);
        offset = omega (arith, s, reach, a);
        hard = inl (rw ea (next_most d.offset d.hard still o m (wanted t.1 f.hard)));
      }
    where
      decide : (left' ≡ 0) ⊎ (1 ≤ left') → 1 ≤ left'
      decide (inl e) = absurd (f.not_done (over e))
      decide (inr e) = e

      still : 1 ≤ left'
      still = decide (grind arith)

      wanted : reported_rows ≡ n → (d.hard + reported_rows ≤ call.hard)
          ⊎ ((call.hard ≡ 18446744073709551615) × (d.hard ≡ 18446744073709551615))
          → (d.hard + n ≤ hard) ⊎ ((hard ≡ 18446744073709551615) × (d.hard ≡ 18446744073709551615))
      wanted e (inl x) = inl (omega (arith, e, x, eh))
      wanted e (inr x) = inr (sym eh ∙ x.0, x.1)

-- where all that came is left out, the next ask follows the last
pub same_follows : (call ask : Call) (skip left k came n : ℕ) (progress : Progress) → progress ≡ HasMore → n
    ≡ 0
    → k ≤ skip → ask.offset + k ≡ (skip + skips_of call left) + came → ask.hard ≡ most_of call left
    → Follows ask came n progress (ask_of call (skip - k) left)
same_follows call ask skip left k came n progress p z h r m = record {
  not_done = λ e. (let x = sym p ∙ e in cc x);
  offset = omega (arith, h, r);
  hard = inl (omega (arith, z, m));
}

pub not_true : (b : Bool) → (b ≡ true → ⊥) → b ≡ false
not_true true f = absurd (f refl)
not_true false f = refl
