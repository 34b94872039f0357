-- The answers of a LIMIT: they keep to the call, and each rest after them was one before.
use Rattle.std.proofs.Common.{◌≡◌, ℕ, zero, suc, ◌+◌, ◌-◌, ◌<◌, ◌≤◌, ◌⊎◌, inl, inr, List, [], length, take, drop, true, min, refl, sym, ap, ◌∙◌, arith}
use Rattle.std.proofs.Math.Seq.{take-nil}
use Rattle.aql_meaning.specs.Row.{Row}
use Rattle.aql_meaning.specs.Clauses.{limit_rows}
use Rattle.aql_block.specs.declared.calls.Step.{Step}
use Rattle.aql_block.specs.declared.calls.Call.{Call}
use Rattle.aql_exec.specs.Rests.{Rest, with_rows}
use Rattle.aql_exec.specs.Steps.{given, reported, InCall}
use Rattle.aql_exec.specs.Mapping.{held_in}
use Rattle.aql_exec.specs.Limiting.{Limits, HeldIs, skips_of, most_of}
use Rattle.aql_exec.specs.declared.limit.Limit.{Limit}
use Rattle.aql_exec.specs.laws.Handing.{same_rows, same_counts}
use Rattle.aql_exec.proofs.Limited.{held_none}
use Rattle.aql_exec.proofs.Asking.{Came, skips_is}
use Rattle.aql_exec.proofs.Asking as asking

-- what a LIMIT holds, as numbers
pub came_of : (s : Limit) (left' : ℕ) → HeldIs s → 1 ≤ s.left → s.ask.hard ≡ most_of s.call s.left
    → s.ask.soft ≡ min s.call.soft (most_of s.call s.left) → left' + ((s.skipped - s.skip) + s.rows) ≡ s.left
    → Came s.call.offset s.call.soft s.call.hard s.skip s.left s.skipped s.rows s.ask.soft s.ask.hard left'
came_of s left' h a b d r =
    let k = skips_is s.call s.left a in
    record {
      skips = skips_of s.call s.left;
      within = k.within;
      fewer = k.fewer;
      exact = k.exact;
      reach = h.skipped;
      rows = h.rows_in;
      first = h.first;
      soft_is = d;
      hard_is = b;
      rest = r;
    }

pub enough_left : (s : Limit) → HeldIs s → 1 ≤ s.left → s.ask.soft ≡ min s.call.soft (most_of s.call s.left)
    → (s.skipped - s.skip) + s.rows ≤ s.left
enough_left s h a d =
    asking.enough s.call.offset s.call.soft s.call.hard s.skip s.left s.skipped s.rows
    (skips_of s.call s.left)
    s.ask.soft (skips_is s.call s.left a).fewer h.skipped h.rows_in h.first d

-- the answer to a call, of so many rows that were skipped beyond those left out
pub record Answers (offset past : ℕ) (rows : List Row) (step : Step) : Type 0 where
  pub over : past < offset → (given step ≡ []) × (step.skipped ≡ past + length rows)
  pub whole : offset ≤ past → (given step ≡ rows) × (step.skipped ≡ past)

pub either : (offset past : ℕ) (rows : List Row) (step : Step) → Answers offset past rows step
    → ((given step ≡ rows) × (step.skipped ≡ past)) ⊎ ((given step ≡ [])
    × (step.skipped ≡ past + length rows))
either offset past rows step a = decide (grind arith)
  where
    decide : (offset ≤ past) ⊎ (past < offset)
        → ((given step ≡ rows) × (step.skipped ≡ past)) ⊎
        ((given step ≡ []) × (step.skipped ≡ past + length rows))
    decide (inl h) = inl (a.whole h)
    decide (inr h) = inr (a.over h)

pub reported_is : (offset past : ℕ) (rows : List Row) (step : Step) → Answers offset past rows step
    → reported step ≡ past + length rows
reported_is offset past rows step a = by_case (either offset past rows step a)
  where
    by_case : ((given step ≡ rows) × (step.skipped ≡ past))
        ⊎ ((given step ≡ []) × (step.skipped ≡ past + length rows)) → reported step ≡ past + length rows
    by_case (inl x) = (let n = ap length x.0 in let m = x.1 in omega (arith, n, m))
    by_case (inr x) = (let n = ap length x.0 in let m = x.1 in omega (arith, n, m))

module _ (soft hard skip left k asked_soft asked_hard left' : ℕ) (call : Call) (rows : List Row) (step : Step)
    (c : Came call.offset soft hard skip left k (length rows) asked_soft asked_hard left')
    (a : Answers call.offset (k - skip) rows step) where
  pub in_call : call.soft ≡ soft → InCall call step
  in_call s = decide (grind arith)
    where
      decide : (call.offset ≤ k - skip) ⊎ (k - skip < call.offset) → InCall call step
      decide (inl h) =
          (let x = a.whole h in let n = ap length x.0 in let m = x.1 in
          let p = asking.past_in call.offset soft hard skip left k
          (length rows) asked_soft asked_hard left' c in
          let q = asking.rows_in call.offset soft hard skip left k
          (length rows) asked_soft asked_hard left' c in
          record {
            skipped = omega (arith, m, p);
            rows = omega (arith, n, q, s);
            first = λ _. omega
                (arith, m, p, h);
          })
      decide (inr h) =
          (let x = a.over h in let n = ap length x.0 in let m = x.1 in
          let p = asking.over_in call.offset soft hard skip left k
          (length rows) asked_soft asked_hard left' c h in
          record {
            skipped = omega (arith, m, p);
            rows = omega (arith, n);
            first = λ f. absurd
                (omega (arith, f, n));
          })

  pub all_given : 1 ≤ hard → 1 ≤ left' → length rows ≡ asked_hard → length (given step) ≡ hard
  all_given w h e =
      let x = asking.all_came call.offset soft hard skip left k
      (length rows) asked_soft asked_hard left' c w h e in
      ap length (a.whole x.1).0 ∙ x.0

  -- what the next call is reported, where more may be given
  pub reported_more : 1 ≤ left' → (step.skipped ≡ k - skip) × (length (given step) ≡ length rows)
  reported_more h = decide (grind arith)
    where
      none_came : length rows ≡ 0 → k - skip < call.offset
          → (step.skipped ≡ k - skip) × (length (given step) ≡ length rows)
      none_came z l =
          (let x = a.over l in let n = ap length x.0 in let m = x.1 in
          (omega (arith, m, z), omega (arith, n, z)))

      decide : (call.offset ≤ k - skip) ⊎ (k - skip < call.offset)
          → (step.skipped ≡ k - skip) × (length (given step) ≡ length rows)
      decide (inl l) = (let x = a.whole l in (x.1, ap length x.0))
      decide (inr l) = by_rows (length rows) refl
        where
          by_rows : (m : ℕ) → m ≡ length rows → (step.skipped ≡ k - skip)
              × (length (given step) ≡ length rows)
          by_rows zero e = none_came (sym e) l
          by_rows (suc m) e =
              (let o = asking.not_over call.offset soft hard skip left k
              (length rows) asked_soft asked_hard left' c
              h (omega (arith, e)) in absurd (omega (arith, o, l)))

-- nothing is left to give, or nothing of the input
pub none_more : (skip left : ℕ) (block : List Row) (i r : Rest) → left ≡ 0
    → Limits skip left (held_in true 0 block i.rows) i r → r.rows ≡ []
none_more skip left block i r e h = h.0 ∙ ap (λ z. take z (drop skip (held_in true 0 block i.rows))) e

pub none_in : (skip left : ℕ) (block : List Row) (i r : Rest) → block ≡ [] → i.rows ≡ []
    → Limits skip left (held_in true 0 block i.rows) i r → r.rows ≡ []
none_in skip left block i r b e h =
    h.0 ∙ ap (limit_rows skip left) (held_none 0 block i.rows b ∙ e)
    ∙ ap (take left) (drop_none skip) ∙ take-nil left
  where
    drop_none : (n : ℕ) → ◌≡◌ {A = List Row} (drop n []) []
    drop_none zero = refl
    drop_none (suc n) = refl

-- with no row in front the input gives the same
pub same_limits : (skip left k : ℕ) (block s : List Row) (i' i r : Rest) → length s ≡ 0 → i' ≡ with_rows s i
    → Limits skip left (held_in true k block i.rows) i r
    → Limits skip left (held_in true k block i'.rows) i' r
same_limits skip left k block s i' i r l e h = (
  h.0 ∙ ap (λ z. limit_rows skip left (held_in true k block z)) (sym (same_rows s i' i l e)),
  λ c. h.1 c ∙ sym (same_counts s i' i e c),
)

pub answers_of : (offset p past : ℕ) (given_rows rows : List Row) (step : Step) → p ≡ past → given_rows ≡ rows
    → (p < offset → (given step ≡ []) × (step.skipped ≡ p + length given_rows))
    → (offset ≤ p → (given step ≡ given_rows) × (step.skipped ≡ p)) → Answers offset past rows step
answers_of offset p past given_rows rows step e f o h = rw (← e, ← f) (record { over = o; whole = h })

pub either_of : {A B C : Type 0} → A ⊎ B → (A → C) → (B → C) → C
either_of (inl a) f g = f a
either_of (inr b) f g = g b

pub zero_or : (n : ℕ) → (n ≡ 0) ⊎ (1 ≤ n)
zero_or zero = inl refl
zero_or (suc n) = inr (omega arith)
