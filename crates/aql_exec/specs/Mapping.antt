-- An executor that makes one row of each row of its input: what it gives and asks, while a step of its input
-- is held and while none is.
use Rattle.std.specs.Prelude.{◌≡◌, ℕ, zero, suc, ◌+◌, ◌≤◌, ◌++◌, ◌⊎◌, List, [], length, map, take, drop, Bool, true, false, cond, refl}
use Rattle.std.proofs.Common.{arith}
use mathlib.Core.Bool.{false≢true}
use Rattle.aql_meaning.specs.Row.{Row}
use Rattle.aql_block.specs.Tables.{rows_of}
use Rattle.aql_block.specs.declared.calls.Call.{Call}
use Rattle.aql_block.specs.declared.calls.Progress.TheVariants.{Waiting, HasMore, Done}
use Rattle.aql_exec.specs.Rests.{Counter, Counts, Exact, Rest, Prefixed}
use Rattle.aql_exec.specs.Steps.{IsCall, Follows}
use Rattle.aql_exec.specs.Operators.{is_first}
use Rattle.aql_exec.specs.declared.mapped.RowMap
use Rattle.aql_exec.specs.declared.mapped.Mapped.{Mapped}

-- the rows of the input, where the rows that are held stand after those that were skipped
abbrev pub held_in : Bool → ℕ → List Row → List Row → List Row
held_in true skipped held rows = (take skipped rows ++ held) ++ drop skipped rows
held_in false skipped held rows = rows

abbrev pub unreported_mapped : {M : Type 0} → Mapped M → ℕ → ℕ
unreported_mapped s zero = cond s.has s.skipped 0
unreported_mapped s (suc k) = 0

abbrev pub waited_mapped : {M : Type 0} → Mapped M → ℕ → Type 0
waited_mapped s zero = (s.has ≡ true) × (s.progress ≡ Waiting)
waited_mapped s (suc k) = ⊥

abbrev pub budget_mapped : {M : Type 0} → Mapped M → ℕ
budget_mapped s = cond s.has (s.skipped + length (rows_of s.block)) 0 + cond s.done 0 1

-- a rest of one row for each of these, that counts what the input counts
abbrev pub Images : (Row → Row) → List Row → Rest → Rest → Type 0
Images f rows input r = (r.rows ≡ map f rows) × ((c : Counter) → r.counts c ≡ input.counts c)

-- it asked by the last call
abbrev pub AsksOn : {M : Type 0} → Mapped M → ℕ → Call → Type 0
AsksOn s zero ask = (ask ≡ s.last) × (1 ≤ ask.hard) × (s.has ≡ false) × (s.asked ≡ true) × (s.done ≡ false)
AsksOn s (suc k) ask = ⊥

-- what is held answers the last call
pub record MappedIs {M : Type 0} (s : Mapped M) : Type 0 where
  pub asked : s.has ≡ true → s.asked ≡ true
  pub skipped_in : s.has ≡ true → s.skipped ≤ s.last.offset
  pub count : s.has ≡ true → s.count ≡ length (rows_of s.block)
  pub rows_in : s.has ≡ true → length (rows_of s.block) ≤ s.last.soft
  pub first : s.has ≡ true → 1 ≤ length (rows_of s.block) → s.skipped ≡ s.last.offset
  pub more : s.has ≡ true → s.progress ≡ HasMore → 1 ≤ s.skipped + length (rows_of s.block)
  pub done : s.has ≡ true → s.progress ≡ Done → (length (rows_of s.block) ≡ s.last.hard) ⊎ (s.done ≡ true)

-- what it may ask next: after an answer was handed back, a call that follows the last
abbrev pub asks_on : {M : Type 0} → Mapped M → ℕ → Call → Type 0
asks_on s zero c = IsCall c
    × (s.fresh ≡ false → s.asked ≡ s.has → Follows s.last s.skipped s.count s.progress c)
asks_on s (suc k) c = ⊥

-- and what may be asked of it: while it waits for an answer the last call alone
abbrev pub may_at : {M : Type 0} → Mapped M → ℕ → Call → Type 0
may_at s zero c = (s.asked ≡ true → c ≡ s.last) × (s.asked ≡ false → asks_on s 0 c)
may_at s (suc p) c = ⊥

module _ {M W : Type 0} (g : RowMap.Ghosts M W) where
  abbrev pub gives_mapped : Mapped M → (ℕ → Rest) → Rest → Type 0
  gives_mapped s ins r =
      Images (g.image s.by) (held_in s.has s.skipped (rows_of s.block) (ins 0).rows) (ins 0) r

  pub some_mapped : (s : Mapped M) (ins : ℕ → Rest) → (r : Rest) × gives_mapped s ins r
  some_mapped s ins = (
    record {
      rows = map (g.image s.by) (held_in s.has s.skipped (rows_of s.block) (ins 0).rows);
      counts = (ins 0).counts;
    },
    (refl, λ c. refl),
  )

  pub more_mapped : (x : Exact) (s : Mapped M) (k : ℕ) (d : Counts) (ins ins' : ℕ → Rest) (r : Rest)
      → is_first k ≡ true → Prefixed x [] d (ins k) (ins' k) → ((j : ℕ) → (j ≡ k → ⊥) → ins' j ≡ ins j)
      → gives_mapped s ins r → (b : Rest) × Prefixed x [] d r b × gives_mapped s ins' b
  more_mapped x s zero d ins ins' r e a o h = (
    record { rows = r.rows; counts = (ins' 0).counts },
    record {
      rows = refl;
      counts = λ c. (let m = a.counts c in let n = h.1 c in omega (arith, m, n));
      exact = λ c i. (let m = a.exact c i in let n = h.1 c in omega (arith, m, n));
    },
    (rw a.rows h.0, λ c. refl),
  )
  more_mapped x s (suc k) d ins ins' r e a o h = absurd (false≢true e)
