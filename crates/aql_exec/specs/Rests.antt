-- What may still come of a feed: its rows, in order, and what will be counted on the way to them. A feed that
-- reads documents in no order of theirs has several possible rests.
use Rattle.std.specs.Prelude.{ℕ, ◌≡◌, ◌+◌, ◌-◌, ◌^◌, min, ◌≤◌, ◌++◌, List, [], length, Bool, true}
use Rattle.aql_meaning.specs.Row.{Row}

-- what is counted: the documents that were read one after the other, those that an index found, the rows that
-- a filter dropped; and of a link the rows that were skipped and sent on it, the Remotes that asked over it, and
-- those of them that took their last reply, one that says Done
pub data Counter : Type 0 where
  scanned_full scanned_index filtered : Counter
  sent_on opened_on closed_on : ℕ → Counter

abbrev pub Counts : Type 0
Counts = Counter → ℕ

-- which of them are counted exactly; of the others a count says at most how many
abbrev pub Exact : Type 0
Exact = Counter → Bool

-- where the first is exact, so is the second
abbrev pub Within : Exact → Exact → Type 0
Within e f = (c : Counter) → e c ≡ true → f c ≡ true

abbrev pub all_exact : Exact
all_exact c = true

pub record Rest : Type 0 where
  pub rows : List Row
  pub counts : Counts

-- a rest with these rows in front
abbrev pub with_rows : List Row → Rest → Rest
with_rows s r = record { rows = s ++ r.rows; counts = r.counts }

-- a rest before, of one after, where these rows came and so much was counted
pub record Prefixed (e : Exact) (s : List Row) (d : Counts) (after before : Rest) : Type 0 where
  pub rows : before.rows ≡ s ++ after.rows
  pub counts : (c : Counter) → after.counts c + d c ≤ before.counts c
  pub exact : (c : Counter) → e c ≡ true → before.counts c ≤ after.counts c + d c

-- a sum of 64 bits that stays at the largest number
abbrev pub saturated : ℕ → ℕ → ℕ
saturated a b = min (a + b) (2 ^ 64 - 1)

-- no row is left, and nothing to count
abbrev pub IsOver : Exact → Rest → Type 0
IsOver e r = (r.rows ≡ []) × ((c : Counter) → e c ≡ true → r.counts c ≡ 0)

-- no rest is possible that has a row or counts
abbrev pub Over : Exact → (Rest → Type 0) → Type 0
Over e rests = (r : Rest) → rests r → IsOver e r

-- an input that ended has no row left, and nothing to count
abbrev pub Ends : Exact → (ℕ → Bool) → (ℕ → Rest) → Type 0
Ends e ended ins = (k : ℕ) → ended k ≡ true → IsOver e (ins k)

-- and no more rows than those skips of it that are not reported
abbrev pub EndsUnreported : Exact → (ℕ → Bool) → (ℕ → ℕ) → (ℕ → Rest) → Type 0
EndsUnreported e ended unreported ins = (k : ℕ) → ended k ≡ true
    → (length (ins k).rows ≡ unreported k) × ((c : Counter) → e c ≡ true → (ins k).counts c ≡ 0)
