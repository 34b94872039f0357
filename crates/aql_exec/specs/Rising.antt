-- How the counts rise: in a tally, at the servers and on the links.
use Rattle.std.specs.Prelude.{ℕ, ◌≡◌, ◌+◌, ◌≤◌, ◌⊎◌, true}
use Rattle.aql_block.specs.declared.calls.Call.{Call}
use Rattle.aql_block.specs.declared.tally.Tally.{Tally}
use Rattle.aql_exec.specs.Rests.{Counter, scanned_full, scanned_index, filtered, sent_on, opened_on, closed_on, Counts, Exact}
use Rattle.aql_exec.specs.Lines.{opened_by, closed_by}
use Rattle.aql_exec.specs.declared.surroundings.Surroundings

-- a count rose by so much; it stays at the largest number of 64 bits
abbrev pub Rose : ℕ → ℕ → ℕ → Type 0
Rose before after added =
    (before ≤ after) × (after ≤ before + added) × ((before + added ≤ after) ⊎ (18446744073709551615 ≤ after))

-- exact where the call has no offset: what is left out is not always looked at
abbrev pub ExactFor : Exact → Call → Counter → Type 0
ExactFor e call c = (call.offset ≡ 0) × (e c ≡ true)

-- so much was counted in a tally
abbrev pub TallyRose : Tally → Tally → ℕ → ℕ → ℕ → Type 0
TallyRose t t' full index dropped = Rose t.scanned_full t'.scanned_full full
    × Rose t.scanned_index t'.scanned_index index × Rose t.filtered t'.filtered dropped

abbrev pub IsExact : Exact → Counter → Type 0
IsExact e c = e c ≡ true

-- so much was counted, at most `d` and all of it where that is exact: the servers count each document that
-- the tally counts; a link each row that is sent on it, one that is opened, and at least so many that are closed,
-- since the last reply may also come where nobody waits for it
pub record Rises {W : Type 0} (p : Surroundings.Ghosts W) (is_exact : Counter → Type 0) (t : Tally) (w : W)
    (t' : Tally) (w' : W) (d : Counts) : Type 0 where
  pub added : Counts
  pub most : (c : Counter) → added c ≤ d c
  pub exact : (c : Counter) → is_exact c → d c ≤ added c
  pub full : Rose t.scanned_full t'.scanned_full (added scanned_full)
  pub index : Rose t.scanned_index t'.scanned_index (added scanned_index)
  pub dropped : Rose t.filtered t'.filtered (added filtered)
  pub own_full : Rose (p.counted w).scanned_full (p.counted w').scanned_full (added scanned_full)
  pub own_index : Rose (p.counted w).scanned_index (p.counted w').scanned_index (added scanned_index)
  pub sent : (l : ℕ) → (p.flight w' l).sent ≡ (p.flight w l).sent + added (sent_on l)
  pub opened : (l : ℕ)
      → opened_by (p.flight w' l).talk ≡ opened_by (p.flight w l).talk + added (opened_on l)
  pub closed : (l : ℕ) → closed_by (p.flight w l).talk (p.flight w l).flying + added (closed_on l)
      ≤ closed_by (p.flight w' l).talk (p.flight w' l).flying
