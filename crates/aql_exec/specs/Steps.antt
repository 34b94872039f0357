-- Calls to a feed, and the steps and turns that answer them.
use Rattle.std.specs.Prelude.{ℕ, ◌≡◌, ◌+◌, ◌-◌, ◌<◌, ◌≤◌, ◌^◌, ◌++◌, ◌⊎◌, List, length}
use Rattle.aql_meaning.specs.Row as meaning
use Rattle.aql_block.specs.Rows.{Entries}
use Rattle.aql_block.specs.declared.calls.Call.{Call}
use Rattle.aql_block.specs.declared.calls.Step.{Step}
use Rattle.aql_block.specs.declared.calls.Progress.{Progress}
use Rattle.aql_block.specs.declared.calls.Progress.TheVariants.{Waiting, HasMore, Done}
use Rattle.aql_block.specs.Tables.{rows_of}
use Rattle.aql_exec.specs.declared.turns.Turn.{Turn}
use Rattle.aql_exec.specs.declared.turns.Turn.TheVariants.{Ask, Start, Give}
use Rattle.aql_exec.specs.Rests.{Counts, Exact, Rest, Prefixed}

-- what a call may be: at least one row a step, no more than are wanted in all, and no more than 10,000
pub record IsCall (c : Call) : Type 0 where
  pub some : 1 ≤ c.soft
  pub soft : c.soft ≤ c.hard
  pub batch : c.soft ≤ 10000

-- by the kind of turn
abbrev pub MatchTurn : Turn → (ℕ → Call → Type 0) → (ℕ → Entries → Type 0) → (Step → Type 0) → Type 0
MatchTurn (Ask input call) p q r = p input call
MatchTurn (Start input row) p q r = q input row
MatchTurn (Give step) p q r = r step

-- where it answers
abbrev pub OnGive : Turn → (Step → Type 0) → Type 0
OnGive t r = MatchTurn t (λ _ _. Unit {0}) (λ _ _. Unit {0}) r

-- the rows that came with a step
abbrev pub given : Step → List meaning.Row
given step = rows_of step.block

-- how many rows a step tells of
abbrev pub reported : Step → ℕ
reported step = step.skipped + length (given step)

-- what a step may be, for a call: at most the offset is skipped, at most `soft` rows come, and a row comes
-- only where the whole offset was skipped
pub record InCall (c : Call) (step : Step) : Type 0 where
  pub skipped : step.skipped ≤ c.offset
  pub rows : length (given step) ≤ c.soft
  pub first : 0 < length (given step) → step.skipped ≡ c.offset

-- 1 where the step does not wait
abbrev pub unless_waiting : Progress → ℕ
unless_waiting Waiting = 0
unless_waiting HasMore = 1
unless_waiting Done = 1

-- more than any number of rows that one call tells of
abbrev pub weight : ℕ
weight = 2 ^ 65

-- each rest after the step was a rest before it, with the rows that were skipped and given in front
abbrev pub Continues : Exact → (Rest → Type 0) → Counts → Step → (Rest → Type 0) → Type 0
Continues e before d step after = (r : Rest) → after r → (skipped : List meaning.Row) × (b : Rest)
    × (length skipped ≡ step.skipped) × Prefixed e (skipped ++ given step) d r b × before b

-- a call that may come after one that was answered by so many skips and rows: the rest of its offset and of
-- the rows that it wanted
pub record Follows (c : Call) (skipped rows : ℕ) (progress : Progress) (d : Call) : Type 0 where
  pub not_done : progress ≡ Done → ⊥
  pub offset : d.offset ≡ c.offset - skipped
  pub hard : (d.hard + rows ≤ c.hard) ⊎ ((c.hard ≡ 18446744073709551615) × (d.hard ≡ 18446744073709551615))
