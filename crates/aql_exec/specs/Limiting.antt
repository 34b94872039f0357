-- LIMIT: what it may still give of the rows that come, and what it asks its input for. The rows that it
-- leaves out and those that a call skips it has skipped by its input, and more than it may give it never asks
-- for.
use Rattle.std.specs.Prelude.{◌≡◌, ℕ, zero, suc, ◌+◌, ◌-◌, ◌≤◌, ◌⊎◌, List, [], length, min, true, false, cond, refl}
use Rattle.std.proofs.Common.{arith}
use mathlib.Core.Bool.{false≢true}
use Rattle.aql_meaning.specs.Row.{Row}
use Rattle.aql_meaning.specs.Clauses.{limit_rows}
use Rattle.aql_block.specs.Tables.{rows_of}
use Rattle.aql_block.specs.declared.calls.Call.{Call}
use Rattle.aql_block.specs.declared.calls.Progress.TheVariants.{Waiting, HasMore, Done}
use Rattle.aql_exec.specs.Rests.{Counter, Counts, Exact, Rest, Prefixed}
use Rattle.aql_exec.specs.Steps.{IsCall, Follows, unless_waiting}
use Rattle.aql_exec.specs.Operators.{is_first}
use Rattle.aql_exec.specs.Mapping.{held_in}
use Rattle.aql_exec.specs.declared.limit.Limit.{Limit}

-- of the rows that a call skips all but the last that is left are skipped
abbrev pub skips_of : Call → ℕ → ℕ
skips_of call left = min call.offset (left - 1)

-- and so many are wanted at most
abbrev pub most_of : Call → ℕ → ℕ
most_of call left = min call.hard (left - skips_of call left)

-- what is asked of the input for a call, where `skip` rows are to be left out and `left` may be given
abbrev pub ask_of : Call → ℕ → ℕ → Call
ask_of call skip left = record {
  offset = skip + skips_of call left;
  soft = min call.soft (most_of call left);
  hard = most_of call left;
}

-- a rest of those of these rows that are not left out, that counts what the input counts
abbrev pub Limits : ℕ → ℕ → List Row → Rest → Rest → Type 0
Limits skip left rows input r =
    (r.rows ≡ limit_rows skip left rows) × ((c : Counter) → r.counts c ≡ input.counts c)

abbrev pub gives_limit : Limit → (ℕ → Rest) → Rest → Type 0
gives_limit s ins r =
    Limits s.skip s.left (held_in true s.skipped (rows_of s.block) (ins 0).rows) (ins 0) r

abbrev pub unreported_limit : Limit → ℕ → ℕ
unreported_limit s zero = s.skipped
unreported_limit s (suc k) = 0

abbrev pub waited_limit : Limit → ℕ → Type 0
waited_limit s zero = (s.has ≡ true) × (s.progress ≡ Waiting)
waited_limit s (suc k) = ⊥

abbrev pub budget_limit : Limit → ℕ
budget_limit s = (s.skipped + length (rows_of s.block)) + cond s.done 0 1

abbrev pub waits_left_limit : Limit → ℕ
waits_left_limit s = cond s.has (unless_waiting s.progress) 1

abbrev pub AsksLimit : Limit → ℕ → Call → Type 0
AsksLimit s zero ask = (ask ≡ s.ask) × (s.pending ≡ true)
AsksLimit s (suc k) ask = ⊥

-- what it may ask next: a call that follows the last, by the step that came for it
abbrev pub asks_limit : Limit → ℕ → Call → Type 0
asks_limit s zero c = IsCall c
    × (s.fresh ≡ false → s.pending ≡ false → Follows s.ask s.came s.rows s.progress c)
asks_limit s (suc k) c = ⊥

-- what may be asked of it: until it answers the same call, and after that one that follows
abbrev pub may_limit : Limit → ℕ → Call → Type 0
may_limit s zero c = (s.asked ≡ true → c ≡ s.call)
    × (s.asked ≡ false → s.fresh ≡ false → Follows s.call s.reported_skips s.reported_rows s.reported c)
may_limit s (suc p) c = ⊥

-- a step of which something is to be reported, and what was asked
pub record HeldIs (s : Limit) : Type 0 where
  pub asked : s.asked ≡ true
  pub pending : s.pending ≡ false
  pub rows : s.rows ≡ length (rows_of s.block)
  pub skipped : s.skipped ≤ s.skip + skips_of s.call s.left
  pub rows_in : s.rows ≤ s.ask.soft
  pub first : 1 ≤ s.rows → s.skipped ≡ s.skip + skips_of s.call s.left
  pub over : s.ask.offset + s.skipped ≡ (s.skip + skips_of s.call s.left) + s.came
  pub ended : s.done ≡ true → s.progress ≡ Done
  pub done : s.progress ≡ Done → (s.rows ≡ s.ask.hard) ⊎ (s.done ≡ true)
  pub more : s.progress ≡ HasMore → 1 ≤ (s.skipped - s.skip) + s.rows

pub record LimitIs (s : Limit) : Type 0 where
  pub skip_in : s.skip ≤ s.offset
  pub left_in : s.left ≤ s.count
  pub not_held : s.has ≡ false → (s.skipped ≤ s.skip) × (rows_of s.block ≡ [])
  pub idle : s.asked ≡ false → (s.skipped ≡ 0) × (s.has ≡ false) × (s.pending ≡ false)
  pub asks : s.asked ≡ true → (1 ≤ s.left) × (1 ≤ s.call.soft) × (s.call.soft ≤ s.call.hard)
      × (s.ask.hard ≡ most_of s.call s.left) × (s.ask.soft ≡ min s.call.soft (most_of s.call s.left))
  pub waits : s.pending ≡ true → (s.ask.offset + s.skipped ≡ s.skip + skips_of s.call s.left)
      × (s.has ≡ false) × (s.asked ≡ true)
  pub going : s.asked ≡ true → s.has ≡ false → s.done ≡ false
  pub held : s.has ≡ true → HeldIs s
  pub next : s.fresh ≡ false → s.pending ≡ false → s.has ≡ false → (d : Call) → IsCall d → may_limit s 0 d
      → Follows s.ask s.came s.rows s.progress (ask_of d (s.skip - s.skipped) s.left)

pub some_limit : (s : Limit) (ins : ℕ → Rest) → (r : Rest) × gives_limit s ins r
some_limit s ins = (
  record {
    rows = limit_rows s.skip s.left (held_in true s.skipped (rows_of s.block) (ins 0).rows);
    counts = (ins 0).counts;
  },
  (refl, λ c. refl),
)

pub more_limit : (x : Exact) (s : Limit) (k : ℕ) (d : Counts) (ins ins' : ℕ → Rest) (r : Rest)
    → is_first k ≡ true → Prefixed x [] d (ins k) (ins' k) → ((j : ℕ) → (j ≡ k → ⊥) → ins' j ≡ ins j)
    → gives_limit s ins r → (b : Rest) × Prefixed x [] d r b × gives_limit s ins' b
more_limit x s zero d ins ins' r e a o h = (
  record { rows = r.rows; counts = (ins' 0).counts },
  record {
    rows = refl;
    counts = λ c. (let m = a.counts c in let n = h.1 c in omega (arith, m, n));
    exact = λ c i. (let m = a.exact c i in let n = h.1 c in omega (arith, m, n));
  },
  (rw a.rows h.0, λ c. refl),
)
more_limit x s (suc k) d ins ins' r e a o h = absurd (false≢true e)
